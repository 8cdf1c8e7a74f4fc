-- What the DELETE of a day's items, up to an id, makes of the table.
-- for: statements::drop_items
use Rattle.std.proofs.Common.{◌≡◌, ℕ, ℤ, List, [], ◌∷◌, map, filter, Bool, false, not, ◌&&◌, Ok, Err, Result, OnOk, refl, ap, ◌∙◌}
use Rattle.std.specs.List.{list_all}
use Rattle.sqlite_value.specs.declared.value.Value.TheVariants.{Int}
use Rattle.sqlite_value.specs.declared.keys.Collation.TheVariants.{Binary}
use Rattle.sqlite_value.specs.Order.{Row, column}
use Rattle.sqlite_trees.proofs.TreeLemmas.{IsShaped-filter}
use Rattle.sqlite_trees.specs.declared.store.Shape.TheVariants.{Table}
use Rattle.sqlite_sql.specs.Ops.{binary, is_true}
use Rattle.sqlite_sql.specs.Term.{holds}
use Rattle.sqlite_sql.specs.declared.ops.BinaryOp.TheVariants.{Compare}
use Rattle.sqlite_sql.specs.declared.ops.CompareOp.TheVariants.{Eq, Le}
use Rattle.sqlite_keyed.proofs.ListLemmas.{filter-map, filter_same}
use Rattle.sqlite_typed.proofs.TestLemmas.{at_ints}
use Rattle.sqlite.specs.State.{State, ExecutesInside}
use Rattle.sqlite.specs.declared.error.Error.{Error}
use Rattle.store_base.specs.Tables.{IsReady, Steps}
use Rattle.store_base.proofs.CellLemmas.{and_true}
use Rattle.store_base.proofs.DeleteLemmas.{deletes}
use Rattle.store_base.proofs.StepLemmas.{steps_of}
use Rattle.store_base.proofs.StoredRows.{Pair, whole}
use Rattle.book_store.specs.Lines.{Line, lines_of, row_of, is_gone, without_lines}
use Rattle.book_store.specs.Schema.{item, book_schema}
use Rattle.book_store.specs.Steps.{Edits}
use Rattle.book_store.specs.Texts.{drop_items_text}
use Rattle.book_store.proofs.PutLemmas.{edits_by}
use Rattle.book_store.proofs.TextFacts.{drop_terms, drop_items_is, drop_items_plain}

module _ (day last : ℤ) where
  abbrev of_day : Row → Bool
  of_day r = is_true (binary (Compare Eq Binary) (column r 5) (Int day))

  abbrev of_id : Row → Bool
  of_id r = is_true (binary (Compare Le Binary) (column r 0) (Int last))

  abbrev goes : Row → Bool
  goes r = of_day r && of_id r

  tests : (p : Pair) → list_all (holds ((Int day ∷ Int last ∷ []) ∷ whole p ∷ [])) drop_terms ≡ goes (whole p)
  tests p = ap (λ b. of_day (whole p) && b) (and_true (of_id (whole p)))

  gone_is : (l : Line) → not (goes (row_of l)) ≡ not (is_gone day last l)
  gone_is l = λ i. not (at_ints false Eq l.day day i && at_ints false Le l.id last i)

  abbrev left : List Row → List Row
  left = filter (λ r. not (goes r))

  left_lines : (lines : List Line) → left (map row_of lines) ≡ map row_of (without_lines day last lines)
  left_lines lines = filter-map (λ r. not (goes r)) row_of lines ∙ ap (map row_of) (filter_same _ _ gone_is lines)

  pub drops_items : (old next : State) (r : Result ℕ Error) → IsReady book_schema old → ExecutesInside 0 drop_items_text (Int day ∷ Int last ∷ []) old next r
      → OnOk r (Steps book_schema (Edits (without_lines day last)) old next)
  drops_items old next (Err e) ready h = tt
  drops_items old next (Ok count) ready h =
      let shaped = ready.now.shaped.1.0 in
      let edit = deletes book_schema 1 item refl drop_terms drop_items_text drop_items_is drop_items_plain (λ olds. refl) (λ trees. refl) old next
      (Int day ∷ Int last ∷ []) goes count tests ready.now.schema_is shaped h.0 in
      let made = edits_by old.now next.now.trees left (without_lines day last) ready.now edit.rows (left_lines (lines_of old.now.trees))
      (edit.others.0 (λ e. let never : 0 ≡ 1 = e in cc)) in
      steps_of book_schema 1 left (Edits (without_lines day last)) old next (IsShaped-filter Table (λ r. not (goes r))) made ready shaped edit
      h.1.mode h.1.committed_is h.1.is_open
