use Rattle.std.proofs.Common.{◌≡◌, drop}
use Rattle.sw_base.specs.Refusals.{first_at}
use Rattle.flow_model.specs.Kinds.{clash_in_by, kind_at}
use Rattle.flow_model.proofs.kinds.check_kinds_by.Given as goal

abbrev pub invariant-loop-number : goal.invariant-loop-number
invariant-loop-number l = first_at (clash_in_by (kind_at l.kinds)) l.number (drop l.number l.groups) ≡ first_at (clash_in_by (kind_at l.kinds)) 0 l.groups
