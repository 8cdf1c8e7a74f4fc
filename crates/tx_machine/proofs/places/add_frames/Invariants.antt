use Rattle.std.proofs.Common.{◌≡◌, ◌++◌, length}
use Rattle.tx_machine.specs.Due.{places_of}
use Rattle.tx_machine.specs.Position.{stack_upcoming}
use Rattle.tx_machine.proofs.places.add_frames.Given as goal

abbrev pub invariant-loop-top : goal.invariant-loop-top
invariant-loop-top l = l.places.items ++ places_of (stack_upcoming l.code l.rest) ≡ l.fn.places.items ++ places_of (stack_upcoming l.code l.stack)

abbrev pub decreases-loop-top : goal.decreases-loop-top
decreases-loop-top l = length l.rest
