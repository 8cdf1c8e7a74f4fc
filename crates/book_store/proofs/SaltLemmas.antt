-- The making of a book's tables, and the row of the salt.
-- for: tables::fill
use Rattle.std.proofs.Common.{◌≡◌, ℕ, pos, List, [], ◌∷◌, map, Ok, Err, Result, OnOk, refl, ap, subst, sym, ◌∙◌}
use Rattle.sqlite_value.specs.declared.value.Value.TheVariants.{Blob}
use Rattle.sqlite_trees.proofs.TreeLemmas.{IsShaped-put_row}
use Rattle.sqlite_trees.specs.Tree.{put_row}
use Rattle.sqlite_trees.specs.View.{IsShaped}
use Rattle.sqlite_trees.specs.declared.store.Shape.TheVariants as shape
use Rattle.sqlite_rules.specs.Cast.{cast_row}
use Rattle.sqlite_rules.specs.Edit.{with_rowid}
use Rattle.sqlite_rules.specs.declared.error.Rowids.TheVariants.{Chosen}
use Rattle.sqlite.specs.State.{State, ExecutesInside}
use Rattle.sqlite.specs.declared.error.Error.{Error}
use Rattle.store_base.specs.Making.{no_schema, IsStage, Makes}
use Rattle.store_base.specs.Tables.{IsReady, Steps}
use Rattle.store_base.proofs.CellLemmas.{cast_int, cast_null}
use Rattle.store_base.proofs.DeleteLemmas.{HasEdited}
use Rattle.store_base.proofs.StepLemmas.{creates, steps_of}
use Rattle.store_base.proofs.WriteLemmas.{inserts}
use Rattle.book_store.specs.Lines.{line_of}
use Rattle.book_store.specs.Schema.{salt, item, salt_schema, book_schema}
use Rattle.book_store.specs.Steps.{PutsSalt, salt_row}
use Rattle.book_store.specs.Making.{Filled}
use Rattle.book_store.specs.Texts.{salt_text, item_text, add_salt_text}
use Rattle.book_store.proofs.TextFacts.{salt_means, item_means, add_salt_is, add_salt_plain}

pub creates_salt : (old new : State) (r : Result ℕ Error) → IsStage no_schema old → ExecutesInside 0 salt_text [] old new r
    → OnOk r (Makes salt_schema old new)
creates_salt = creates no_schema salt_schema salt salt_text salt_means refl

pub creates_item : (old new : State) (r : Result ℕ Error) → IsStage salt_schema old → ExecutesInside 0 item_text [] old new r
    → OnOk r (Makes book_schema old new)
creates_item = creates salt_schema book_schema (record item { tree = 0 }) item_text item_means refl

pub adds_salt : (old new : State) (bytes : List ℕ) (r : Result ℕ Error) → IsReady book_schema old → ExecutesInside 0 add_salt_text (Blob bytes ∷ []) old new r →
    OnOk r (Steps book_schema (PutsSalt bytes) old new)
adds_salt old new bytes (Err e) ready h = tt
adds_salt old new bytes (Ok count) ready h =
    let shaped = ready.now.shaped.0 in
    let source = salt_row bytes in
    let put = inserts book_schema 0 salt refl refl _ 3 add_salt_text add_salt_is add_salt_plain old new (Blob bytes ∷ []) source count
    ready.now.schema_is refl h.0 in
    let row : cast_row salt source ≡ source = λ i. cast_int (pos 1) i ∷ cast_null i ∷ Blob bytes ∷ [] in
    let f = put_row source in
    let edit : HasEdited book_schema 0 f old.now new.now =
    record {
      schema_is = put.schema_is;
      sound = put.sound;
      rows = put.rows ∙ ap (λ r. put_row (with_rowid Chosen (old.now.trees 0) r) (old.now.trees 0)) row;
      others = put.others;
    } in
    let made : PutsSalt bytes old.now.trees new.now.trees = record { salt = edit.rows; rows = edit.others.1.0 (λ e. let never : 1 ≡ 0 = e in cc) } in
    steps_of book_schema 0 f (PutsSalt bytes) old new (λ rows s. IsShaped-put_row source rows refl s) made ready shaped edit h.1.mode h.1.committed_is
    h.1.is_open

-- tables that were made are ready to be filled
pub made_ready : (old new : State) → Makes book_schema old new → IsReady book_schema new
made_ready old new m =
    let at = λ (t : ℕ) (e : new.now.trees t ≡ []). subst (IsShaped shape.Table) (sym e) (tt, tt) in
    let e = m.stage.empty in
    record {
      now = record { schema_is = m.stage.schema_is; sound = m.sound; shaped = (at 0 e.0, (at 1 e.1.0, tt)) };
      mode = m.stage.mode;
    }

pub filled : (a b c : State) (bytes : List ℕ) → Makes book_schema a b → Steps book_schema (PutsSalt bytes) b c → Filled bytes a c
filled a b c bytes m one =
    let e = m.stage.empty in
    record {
      ready = one.ready;
      made = record {
        salt = one.made.salt ∙ ap (put_row (salt_row bytes)) e.0;
        lines = ap (map line_of) (one.made.rows ∙ e.1.0);
      };
      committed = one.committed ∙ m.committed;
      is_open = one.is_open;
    }
