use Rattle.std.proofs.Common.{◌≡◌, drop}
use Rattle.sw_base.specs.Refusals.{first_at}
use Rattle.flow_model.specs.Kinds.{clash_by, kind_at}
use Rattle.flow_model.proofs.kinds.check_kinds_of.Given as goal

abbrev pub invariant-loop-index : goal.invariant-loop-index
invariant-loop-index l = first_at (clash_by (kind_at l.kinds) l.group) l.index (drop l.index l.entries) ≡ first_at (clash_by (kind_at l.kinds) l.group) 0
    l.entries
