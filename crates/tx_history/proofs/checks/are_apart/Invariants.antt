use Rattle.std.proofs.Common.{◌≡◌, drop}
use Rattle.tx_history.specs.Checks.{are_apart}
use Rattle.tx_history.proofs.checks.are_apart.Given as goal

abbrev pub invariant-loop-row : goal.invariant-loop-row
invariant-loop-row l = are_apart (drop l.row-index l.rows) l.shelf ≡ are_apart l.rows l.shelf
