use Rattle.std.proofs.Common.{◌≡◌, ◌≤◌, take}
use Rattle.run_switch.specs.Shown.{committing_in}
use Rattle.run_switch.proofs.saying.committing_in.Given as goal

abbrev pub invariant-loop-row : goal.invariant-loop-row
invariant-loop-row l = (l.count ≡ committing_in (take l.row-index l.rows)) × (l.count ≤ l.row-index)
