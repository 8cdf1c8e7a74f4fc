use Rattle.std.proofs.Common.{◌↔◌, drop}
use Rattle.tx_history.specs.Views.{AllUnder, WaitingFits}
use Rattle.tx_history.proofs.checks.shelf_fits.Given as goal

abbrev pub invariant-loop-waiting : goal.invariant-loop-waiting
invariant-loop-waiting l = AllUnder WaitingFits (drop l.waiting-index l.shelf) ↔ AllUnder WaitingFits l.shelf
