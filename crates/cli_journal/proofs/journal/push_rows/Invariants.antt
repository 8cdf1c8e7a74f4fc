use Rattle.std.proofs.Common.{◌≡◌, ◌++◌, drop}
use Rattle.std.specs.List.{flat_map}
use Rattle.cli_journal.specs.Shown.{row_in}
use Rattle.cli_journal.proofs.journal.push_rows.Given as goal

abbrev pub invariant-loop-row : goal.invariant-loop-row
invariant-loop-row l = l.text.items ++ flat_map (row_in l.style) (drop l.row-index l.rows) ≡ l.fn.text.items ++ flat_map (row_in l.style) l.rows
