use Rattle.std.proofs.Common.{◌≡◌, drop}
use Rattle.flow_model.specs.Check.{clash_in}
use Rattle.sw_base.specs.Refusals.{first_at}
use Rattle.flow_model.proofs.check.check_kinds.Given as goal

abbrev pub invariant-loop-number : goal.invariant-loop-number
invariant-loop-number l = first_at (clash_in l.groups) l.number (drop l.number l.groups) ≡ first_at (clash_in l.groups) 0 l.groups
