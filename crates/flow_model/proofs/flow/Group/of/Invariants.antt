use Rattle.std.proofs.Common.{◌≡◌, map, take}
use Rattle.flow_model.specs.Groups.{entry_of}
use Rattle.flow_model.proofs.flow.Group.of.Given as goal

abbrev pub invariant-loop-participant : goal.invariant-loop-participant
invariant-loop-participant l = l.made.items ≡ map (λ e. entry_of e.0.now e.1) (take l.participant-index l.entries)
