-- Rows at fault that are left out, one after the other.
-- for: rest::rest_of
use Rattle.std.proofs.Common.{◌≡◌, ◌∙◌, List, [], ◌∷◌, ◌++◌, Some, Result, Err, refl, subst, sym, ap}
use Rattle.sqlite_value.specs.Order.{Row}
use Rattle.tx_history.specs.declared.journal.JournalView.{JournalView}
use Rattle.journal_store.specs.declared.reading.Stored.{Stored}
use Rattle.journal_rows.specs.Answer.{IsReading}
use Rattle.journal_rows.specs.Faults.{IsFault}
use Rattle.journal_rows.specs.declared.error.BadRow.{BadRow}
use Rattle.journal_rows.specs.declared.error.RowsError.{RowsError}
use Rattle.journal_rows.specs.declared.error.RowsError.TheVariants as rows
use Rattle.journal_rows.specs.declared.layout.Layout.{Layout}
use Rattle.journal_copy.specs.Rest.{IsFaultOf, LeavesOut, Rows, rows_of, without}

leaves_more : (layout : Layout) (start now : Rows) (out : List BadRow) (bad : BadRow) → LeavesOut layout start out now → IsFaultOf layout now (Some bad)
    → LeavesOut layout start (out ++ bad ∷ []) (without bad now)
leaves_more layout start now [] bad same fault = (subst (λ (r : Rows). IsFaultOf layout r (Some bad)) same fault, ap (without bad) same)
leaves_more layout start now (b ∷ out) bad h fault = (h.0, leaves_more layout (without b start) now out bad h.1 fault)

-- what was read of these rows
fault_of : (layout : Layout) (s : Stored) (parts meta tx members shelf advices : List Row) (r : Result JournalView RowsError) (bad : BadRow) →
    parts ≡ s.parts.items → meta ≡ s.meta.items
    → tx ≡ s.tx.items → members ≡ s.members.items → shelf ≡ s.shelf.items → advices ≡ s.advices.items → r ≡ Err (rows.BadRow bad) →
    IsReading layout parts meta tx members shelf advices r
    → IsFaultOf layout (rows_of s) (Some bad)
fault_of layout s parts meta tx members shelf advices r bad ep em et ej es ea is reading =
    let read : IsFault layout parts meta tx members shelf advices (Some bad) =
    subst (λ (x : Result JournalView RowsError). IsReading layout parts meta tx members shelf advices x) is reading in
    rw (sym ep, sym em, sym et, sym ej, sym es, sym ea) read

pub leaves_on : (layout : Layout) (start now : Rows) (s : Stored) (parts meta tx members shelf advices : List Row) (r : Result JournalView RowsError)
    (out after : List BadRow) (bad : BadRow)
    → parts ≡ s.parts.items → meta ≡ s.meta.items → tx ≡ s.tx.items → members ≡ s.members.items → shelf ≡ s.shelf.items → advices ≡ s.advices.items
    → r ≡ Err (rows.BadRow bad) → IsReading layout parts meta tx members shelf advices r → LeavesOut layout start out (rows_of s) →
    after ≡ out ++ bad ∷ [] → now ≡ without bad (rows_of s)
    → LeavesOut layout start after now
leaves_on layout start now s parts meta tx members shelf advices r out after bad ep em et ej es ea is reading leaves pushed left =
    let fault = fault_of layout s parts meta tx members shelf advices r bad ep em et ej es ea is reading in
    rw (pushed, left) (leaves_more layout start (rows_of s) out bad leaves fault)
