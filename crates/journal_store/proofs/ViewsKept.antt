-- The view that a database has is that of the journal that is opened on it.
-- for: journal::Journal::open
use Rattle.std.proofs.Common.{◌≡◌, ◌∙◌, None, inl, inr, refl, sym, subst}
use Rattle.sqlite.specs.Effect.{Database}
use Rattle.sqlite_catalog.specs.Listing.{IsSound}
use Rattle.sqlite_schema.specs.declared.schema.Schema.{Schema}
use Rattle.sqlite_trees.specs.Tree.{Trees}
use Rattle.tx_history.specs.declared.journal.JournalView.{JournalView}
use Rattle.journal_rows.specs.Faults.{IsFaultIn, IsViewIn}
use Rattle.journal_rows.specs.Tables.{Tables, first_tables_of, tables_of}
use Rattle.journal_rows.specs.Convert.{converted}
use Rattle.journal_tables.specs.Schema.{first_schema}
use Rattle.journal_tables.specs.Converting.{IsFirst}
use Rattle.journal_tables.proofs.Types.{converted_from}
use Rattle.journal_store.specs.Kept.{OpensAs}
use Rattle.journal_store.specs.Making.{new_tables}
use Rattle.journal_store.specs.Opened.{IsViewOf}
use Rattle.journal_store.proofs.Opens.{journal_sound, opens_empty, opens_first, opens_sound}

first_sound : (d : Database) → IsFirst d → IsSound first_schema d.trees
first_sound d first = subst (λ (s : Schema). IsSound s d.trees) first.schema_is first.sound

new_fine : IsFaultIn new_tables None
new_fine = record { in_tx = None; in_shelf = None; is_tx = refl; is_shelf = refl; first = refl }

-- the tables that an opening makes have the view
view_opened : (db : Database) (v : JournalView) (t : Tables) → IsViewOf db v → OpensAs db.trees t → IsViewIn t v
view_opened db v t (inl is) o = subst (λ (u : Tables). IsViewIn u v) (sym (opens_sound db.trees t (journal_sound db is.0) o)) is.1
view_opened db v t (inr (inl is)) o =
    let stays = converted_from db is.0 is.1 in
    subst (λ (u : Tables). IsViewIn u v) (sym (opens_first db.trees t (first_sound db is.0) o)) (record { sound = stays.sound; reads = stays.same ∙ is.2 })
view_opened db v t (inr (inr is)) o = subst (λ (u : Tables). IsViewIn u v) (sym (opens_empty db.trees t is.0 o))
    (record { sound = new_fine; reads = sym is.1 })

-- a database that has a view can be opened
opened_of : (db : Database) (v : JournalView) → IsViewOf db v → (t : Tables) × OpensAs db.trees t
opened_of db v (inl is) = (tables_of db.trees, inl (journal_sound db is.0, refl))
opened_of db v (inr (inl is)) = (converted (first_tables_of db.trees), inr (inl (first_sound db is.0, is.1, refl)))
opened_of db v (inr (inr is)) = (new_tables, inr (inr (is.0, refl)))

pub view_kept : (was : Trees) (t : Tables) → OpensAs was t → (db : Database) (v : JournalView) → db.trees ≡ was → IsViewOf db v → IsViewIn t v
view_kept was t o db v same is = view_opened db v t is (subst (λ (d : Trees). OpensAs d t) (sym same) o)

pub view_same : (t u : Tables) (v : JournalView) → u ≡ t → IsViewIn t v → IsViewIn u v
view_same t u v same is = subst (λ (w : Tables). IsViewIn w v) (sym same) is

pub view_left : (was : Trees) (u : Tables) → ((t : Tables) → OpensAs was t → u ≡ t) → (db : Database) (v : JournalView) → db.trees ≡ was → IsViewOf db v →
    IsViewIn u v
view_left was u once db v same is =
    let o = opened_of db v is in
    let there = subst (λ (d : Trees). OpensAs d o.0) same o.1 in
    view_same o.0 u v (once o.0 there) (view_opened db v o.0 is o.1)
