-- What an open makes of the last commit of a journal.
-- for: journal::Journal::open, journal::Journal::view, journal::Journal::write
use Rattle.std.proofs.Common.{◌≡◌, List, [], ◌∷◌, length, arith, refl, sym, ap, subst, inl, inr, ◌∙◌}
use Rattle.std.specs.List.{AllZip}
use Rattle.sqlite_value.specs.Order.{Row}
use Rattle.sqlite_trees.specs.Tree.{Trees}
use Rattle.sqlite_schema.specs.declared.schema.Table.{Table}
use Rattle.sqlite_schema.specs.declared.schema.Schema.{Schema}
use Rattle.sqlite_catalog.specs.Listing.{IsSound, IsTableRow}
use Rattle.sqlite.specs.Effect.{Database}
use Rattle.journal_rows.specs.Tables.{Tables, first_tables_of, tables_of}
use Rattle.journal_rows.specs.Convert.{converted}
use Rattle.journal_tables.specs.Schema.{first_schema, journal_schema}
use Rattle.journal_tables.specs.Steps.{IsJournal}
use Rattle.journal_store.specs.Kept.{OpensAs}
use Rattle.journal_store.specs.Making.{new_tables, no_schema}

-- a database lists the same number of tables in each schema that it is sound under

count_listed : (rows : List Row) (ts : List Table) → AllZip IsTableRow rows ts → length rows ≡ length ts
count_listed [] [] h = refl
count_listed [] (t ∷ ts) h = absurd h
count_listed (r ∷ rows) [] h = absurd h
count_listed (r ∷ rows) (t ∷ ts) h = let rest = count_listed rows ts h.1 in omega (arith, rest)

pub same_count : (one two : Schema) (db : Trees) → IsSound one db → IsSound two db → length one.tables ≡ length two.tables
same_count one two db a b = sym (count_listed _ _ a.lists.listed.tables) ∙ count_listed _ _ b.lists.listed.tables

not_first : (db : Trees) → IsSound journal_schema db → IsSound first_schema db → ⊥
not_first db a b = let same : 7 ≡ 5 = same_count journal_schema first_schema db a b in omega (arith, same)

not_empty : (db : Trees) → IsSound journal_schema db → IsSound no_schema db → ⊥
not_empty db a b = let same : 7 ≡ 0 = same_count journal_schema no_schema db a b in omega (arith, same)

first_not_empty : (db : Trees) → IsSound first_schema db → IsSound no_schema db → ⊥
first_not_empty db a b = let same : 5 ≡ 0 = same_count first_schema no_schema db a b in omega (arith, same)

pub journal_sound : (d : Database) → IsJournal d → IsSound journal_schema d.trees
journal_sound d j = subst (λ (s : Schema). IsSound s d.trees) j.schema j.sound

pub opens_sound : (db : Trees) (t : Tables) → IsSound journal_schema db → OpensAs db t → t ≡ tables_of db
opens_sound db t sound (inl o) = o.1
opens_sound db t sound (inr (inl o)) = absurd (not_first db sound o.0)
opens_sound db t sound (inr (inr o)) = absurd (not_empty db sound o.0)

-- from the last commit an open makes the tables as they are now
pub opens_kept : (now committed : Database) (db : Trees) (t : Tables) → IsJournal now → committed ≡ now → db ≡ committed.trees → OpensAs db t →
    t ≡ tables_of now.trees
opens_kept now committed db t j same is o =
    let there : db ≡ now.trees = is ∙ ap (λ (d : Database). d.trees) same in
    opens_sound db t (subst (IsSound journal_schema) (sym there) (journal_sound now j)) o ∙ ap tables_of there

-- from layout 1, in which no row is at fault, it makes the converted tables
pub opens_first : (db : Trees) (t : Tables) → IsSound first_schema db → OpensAs db t → t ≡ converted (first_tables_of db)
opens_first db t first (inl o) = absurd (not_first db o.0 first)
opens_first db t first (inr (inl o)) = o.2
opens_first db t first (inr (inr o)) = absurd (first_not_empty db first o.0)

pub opens_empty : (db : Trees) (t : Tables) → IsSound no_schema db → OpensAs db t → t ≡ new_tables
opens_empty db t none (inl o) = absurd (not_empty db o.0 none)
opens_empty db t none (inr (inl o)) = absurd (first_not_empty db o.0 none)
opens_empty db t none (inr (inr o)) = o.1

-- the same commit is opened as the same tables

opens_once : (db : Trees) (t u : Tables) → OpensAs db t → OpensAs db u → u ≡ t
opens_once db t u (inl a) b = opens_sound db u a.0 b ∙ sym a.1
opens_once db t u (inr (inl a)) b = opens_first db u a.0 b ∙ sym a.2
opens_once db t u (inr (inr a)) b = opens_empty db u a.0 b ∙ sym a.1

pub opens_again : (committed db : Trees) (t u : Tables) → db ≡ committed → OpensAs committed t → OpensAs db u → u ≡ t
opens_again committed db t u same a b = opens_once committed t u a (subst (λ (d : Trees). OpensAs d u) same b)
