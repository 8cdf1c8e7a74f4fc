use Rattle.std.proofs.Common.{◌≡◌, drop}
use Rattle.flow_model.specs.Check.{clash}
use Rattle.sw_base.specs.Refusals.{first_at}
use Rattle.flow_model.proofs.check.check_kinds_in.Given as goal

abbrev pub invariant-loop-index : goal.invariant-loop-index
invariant-loop-index l = first_at (clash l.groups l.group) l.index (drop l.index l.entries) ≡ first_at (clash l.groups l.group) 0 l.entries
