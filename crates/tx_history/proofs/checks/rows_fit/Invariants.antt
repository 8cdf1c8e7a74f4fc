use Rattle.std.proofs.Common.{◌↔◌, drop}
use Rattle.tx_history.specs.Views.{AllUnder, RowFits}
use Rattle.tx_history.proofs.checks.rows_fit.Given as goal

abbrev pub invariant-loop-row : goal.invariant-loop-row
invariant-loop-row l = AllUnder RowFits (drop l.row-index l.rows) ↔ AllUnder RowFits l.rows
