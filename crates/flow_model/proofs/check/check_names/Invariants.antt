use Rattle.std.proofs.Common.{◌≡◌, drop}
use Rattle.flow_model.specs.Check.{bad_group}
use Rattle.sw_base.specs.Refusals.{first_at}
use Rattle.flow_model.proofs.check.check_names.Given as goal

abbrev pub invariant-loop-number : goal.invariant-loop-number
invariant-loop-number l = first_at (bad_group) l.number (drop l.number l.groups) ≡ first_at (bad_group) 0 l.groups
