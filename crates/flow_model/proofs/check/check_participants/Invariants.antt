use Rattle.std.proofs.Common.{◌≡◌, drop}
use Rattle.flow_model.specs.Check.{bad_entry}
use Rattle.sw_base.specs.Refusals.{first_at}
use Rattle.flow_model.proofs.check.check_participants.Given as goal

abbrev pub invariant-loop-index : goal.invariant-loop-index
invariant-loop-index l = first_at (bad_entry l.group) l.index (drop l.index l.entries) ≡ first_at (bad_entry l.group) 0 l.entries
