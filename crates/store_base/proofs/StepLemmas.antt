-- What a statement that changes one table makes of a transaction.
-- for: the crates above
use Rattle.std.proofs.Common.{◌≡◌, ◌≢◌, ℕ, List, [], ◌∷◌, Bool, true, false, Ok, Err, Result, OnOk, IsTrue, eqb, refl, sym, subst, ◌∙◌, true≢false}
use Rattle.std.specs.List.{AllByRecursion}
use Rattle.std.proofs.lemmas.Bool.Decides.{Decides-eqb}
use Rattle.sqlite.specs.Does.{lacks_sequence}
use Rattle.sqlite.specs.State.{State, ExecutesInside}
use Rattle.sqlite.specs.declared.error.Error.{Error}
use Rattle.sqlite_keyed.proofs.ListLemmas.{all_both}
use Rattle.sqlite_schema.specs.declared.schema.Schema.{Schema}
use Rattle.sqlite_schema.specs.declared.schema.Table as declared
use Rattle.sqlite_trees.specs.Tree.{Trees}
use Rattle.sqlite_trees.specs.View.{IsShaped}
use Rattle.sqlite_trees.specs.declared.store.Shape.TheVariants as shape
use Rattle.sqlite_value.specs.Order.{Row}
use Rattle.store_base.specs.Making.{IsStage, Makes}
use Rattle.store_base.specs.Tables.{IsReady, Steps}
use Rattle.store_base.proofs.CreateLemmas.{MakesTable, one_created, each_tree}
use Rattle.store_base.proofs.DeleteLemmas.{HasEdited}

kept_shaped : (tables : List declared.Table) (tree : ℕ) (old new : Trees) → IsShaped shape.Table (new tree) →
    AllByRecursion (λ t. t.tree ≢ tree → new t.tree ≡ old t.tree) tables
    → AllByRecursion (λ t. IsShaped shape.Table (old t.tree)) tables → AllByRecursion (λ t. IsShaped shape.Table (new t.tree)) tables
kept_shaped [] tree old new here others h = tt
kept_shaped (t ∷ ts) tree old new here others h = (go (eqb t.tree tree) refl, kept_shaped ts tree old new here others.1 h.1)
  where
    go : (b : Bool) → eqb t.tree tree ≡ b → IsShaped shape.Table (new t.tree)
    go true e = subst (λ n. IsShaped shape.Table (new n)) (sym ((Decides-eqb t.tree tree).0 e)) here
    go false e = subst (IsShaped shape.Table) (sym (others.0 (λ same. true≢false (sym ((Decides-eqb t.tree tree).1 same) ∙ e)))) h.0

-- one table changes
pub steps_of : (schema : Schema) (tree : ℕ) (f : List Row → List Row) (Made : Trees → Trees → Type 0) (old new : State) →
    ((rows : List Row) → IsShaped shape.Table rows → IsShaped shape.Table (f rows)) → Made old.now.trees new.now.trees
    → IsReady schema old → IsShaped shape.Table (old.now.trees tree)
    → HasEdited schema tree f old.now new.now → new.in_transaction ≡ true → new.committed ≡ old.committed → IsTrue new.is_open → Steps schema Made old new
steps_of schema tree f Made old new shapes made ready shaped edit mode same live = record {
  ready = record {
    now = record {
      schema_is = edit.schema_is;
      sound = edit.sound;
      shaped = kept_shaped schema.tables tree old.now.trees new.now.trees
          (subst (IsShaped shape.Table) (sym edit.rows) (shapes (old.now.trees tree) shaped)) edit.others ready.now.shaped;
    };
    mode = mode;
  };
  made = made;
  committed = same;
  is_open = live;
}

module _ (schema next : Schema) (table : declared.Table) (text : List ℕ) (means : MakesTable schema next table text)
    (uncounted : lacks_sequence next ≡ false) where
  -- one more table, all of them empty
  pub creates : (old new : State) (r : Result ℕ Error) → IsStage schema old → ExecutesInside 0 text [] old new r → OnOk r (Makes next old new)
  creates old new (Err e) stage h = tt
  creates old new (Ok count) stage h =
      let made = one_created schema next table text means uncounted old new count stage.schema_is h.0 in
      let none : AllByRecursion (λ (t : declared.Table). new.now.trees t.tree ≡ []) schema.tables =
      all_both _ _ _ (λ t p q. p ∙ q) schema.tables made.kept stage.empty in
      record {
        stage = record {
          schema_is = made.schema_is;
          mode = h.1.mode;
          empty = each_tree schema next table text means (λ n. new.now.trees n ≡ []) none made.empty;
        };
        sound = made.sound;
        committed = h.1.committed_is;
        is_open = h.1.is_open;
      }
