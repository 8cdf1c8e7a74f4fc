-- What a store that was read again says of its tables.
-- for: again::reread
use Rattle.std.proofs.Common.{◌≡◌, Result, Ok, Err, IfOk, List, [], ◌∷◌, sym, subst, ◌∙◌}
use Rattle.std.specs.List.{AllByRecursion}
use Rattle.sqlite_trees.specs.Tree.{Trees}
use Rattle.sqlite_trees.specs.View.{View, IsShaped, IsOrdered}
use Rattle.sqlite_trees.specs.Objects.{catalog_tree, IsListed}
use Rattle.sqlite_trees.specs.declared.store.Shape.TheVariants.{Table}
use Rattle.sqlite_catalog.specs.Listing.{AreListed}
use Rattle.sqlite_catalog.proofs.LayoutLemmas.{laid_out, objects_rise}
use Rattle.sqlite.specs.Effect.{Database, IsDatabase}
use Rattle.sqlite.specs.State.{State, IsUnchanged}
use Rattle.sqlite_schema.specs.declared.schema.Schema.{Schema}
use Rattle.store_base.specs.Rest.{AreShaped, IsAtRest}
use Rattle.store_base.specs.Tables.{IsCommitted, IsKept}

pub all_map : {X : Type 0} (P Q : X → Type 0) (f : (x : X) → P x → Q x) (xs : List X) → AllByRecursion P xs → AllByRecursion Q xs
all_map P Q f [] h = tt
all_map P Q f (x ∷ xs) h = (f x h.0, all_map P Q f xs h.1)

pub shaped_by : (v : View) (db : Database) → db.trees ≡ v.trees → IsListed (v.trees catalog_tree) v.shape v.reals → IsOrdered v.shape v.trees →
    IsDatabase db → AreShaped db
shaped_by v db same listed ordered sound =
    let are = subst (λ (t : Trees). AreListed (t catalog_tree) db.schema) same sound.lists.listed in
    let laid = laid_out listed (objects_rise v listed ordered) are in
    all_map (λ t. v.shape t.tree ≡ Table) (λ t. IsShaped Table (db.trees t.tree))
    (λ t at. subst (λ (d : Trees). IsShaped Table (d t.tree)) (sym same) (subst (λ s. IsShaped s (v.trees t.tree)) at (ordered t.tree))) db.schema.tables
    laid.tables

pub if_ok_then : {A E : Type 0} (P Q : A → Type 0) (r : Result A E) → ((a : A) → P a → Q a) → IfOk r P → IfOk r Q
if_ok_then P Q (Ok a) f h = f a h
if_ok_then P Q (Err e) f h = tt

pub if_ok_both : {A E : Type 0} (P Q : A → Type 0) (r : Result A E) → IfOk r P → IfOk r Q → IfOk r (λ a. P a × Q a)
if_ok_both P Q (Ok a) p q = (p, q)
if_ok_both P Q (Err e) p q = tt

-- a connection at rest over this schema has it committed
pub rest_ready : (schema : Schema) (s : State) → IsAtRest s → s.now.schema ≡ schema → IsCommitted schema s
rest_ready schema s rest is =
    let shapes = subst (λ (d : Schema). AllByRecursion (λ t. IsShaped Table (s.now.trees t.tree)) d.tables) is rest.shaped in
    record {
      is_open = rest.is_open;
      now = record { schema_is = is; sound = rest.sound; shaped = shapes };
      committed = sym rest.committed;
    }

-- what is committed stays committed where it was only read
pub read_committed : (schema : Schema) (a b : State) → IsUnchanged a b → IsCommitted schema a → IsCommitted schema b
read_committed schema a b same ready = record {
  is_open = same.0.is_open;
  now = subst (IsKept schema) (sym same.0.now_is) ready.now;
  committed = same.0.committed_is ∙ ready.committed ∙ sym same.0.now_is;
}
