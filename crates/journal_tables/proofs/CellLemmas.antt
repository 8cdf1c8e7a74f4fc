-- The row of a transaction with its last member, by the cells that are put.
-- for: changes::put_whole, changes::put_over
use Rattle.std.proofs.Common.{◌≡◌, ℕ, List, Some, Result, IsTrue, OnOk, ap, subst, sym}
use Rattle.sqlite.specs.State.{State}
use Rattle.tx_history.specs.declared.journal.Row as own
use Rattle.journal_rows.specs.Tables.{Tables, row_put, tables_of, with_last}
use Rattle.journal_tables.specs.declared.rows.TxRow.{TxRow}
use Rattle.journal_tables.specs.Parts.{AreParts, Named}
use Rattle.journal_tables.specs.Rows.{with_row}
use Rattle.journal_tables.specs.Steps.{IsReady, Steps, with_cells}
use Rattle.journal_tables.proofs.ChainLemmas.{steps_then}
use Rattle.journal_tables.proofs.KnownParts.{named_if}

pub cells_put : (id : ℕ) (r : own.Row) (cells : TxRow) (old mid : State) → with_row cells ≡ with_cells id r → Steps (with_row cells) old mid →
    Steps (with_cells id r) old mid
cells_put id r cells old mid is steps = subst (λ f. Steps f old mid) is steps

pub then_last : {A E : Type 0} (id : ℕ) (r : own.Row) (names : List (List ℕ)) (before after : List (List ℕ)) (old mid new : State) (result : Result A E) →
    names ≡ r.joined → Steps (with_cells id r) old mid → AreParts before (tables_of old.now.trees).part
    → (IsReady mid → IsTrue mid.is_open → AreParts before (tables_of mid.now.trees).part → OnOk result (Named after (with_last id 0 names) mid new))
    → OnOk result (Named after (row_put id (Some r)) old new)
then_last id r names before after old mid new result joined one are goes =
    let parts : AreParts before (tables_of mid.now.trees).part = subst (AreParts before) (sym (ap (λ (t : Tables). t.part) one.tables)) are in
    let last = subst (λ (xs : List (List ℕ)). OnOk result (Named after (with_last id 0 xs) mid new)) joined (goes one.ready one.is_open parts) in
    named_if result (λ two. record {
      steps = steps_then (with_cells id r) (with_last id 0 r.joined) old mid new one two.steps;
      parts_are = two.parts_are;
    }) last
