use Rattle.std.proofs.Common.{◌≡◌, map}
use Rattle.run_switch.specs.Stored.{plain}
use Rattle.run_switch.proofs.advices.advices_of.Given as goal

abbrev pub invariant-loop-id : goal.invariant-loop-id
invariant-loop-id l = map plain l.list.items ≡ map (λ e. (e.0.now, e.1.now)) l.yielded
