use Rattle.std.proofs.Common.{◌≡◌}
use Rattle.journal_rows.specs.Faults.{number}
use Rattle.journal_copy.specs.Rest.{LeavesOut, rows_of}
use Rattle.journal_copy.proofs.rest.rest_of.Given as goal

abbrev pub invariant-loop : goal.invariant-loop
invariant-loop l = record {
  leaves : LeavesOut l.layout (rows_of l.fn.stored) l.left_out.items (rows_of l.stored);
  numbered : l.number ≡ number l.layout;
}
