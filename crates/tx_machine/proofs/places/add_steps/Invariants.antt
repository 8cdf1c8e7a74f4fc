use Rattle.std.proofs.Common.{◌≡◌, ◌++◌, drop}
use Rattle.flow_asm.specs.Steps.{stages}
use Rattle.tx_machine.specs.Due.{places_of}
use Rattle.tx_machine.specs.Position.{calls_of, upcoming_at}
use Rattle.tx_machine.proofs.places.add_steps.Given as goal

abbrev pub invariant-loop-step : goal.invariant-loop-step
invariant-loop-step l = l.places.items ++ places_of (calls_of (drop l.step (stages l.code))) ≡ l.fn.places.items ++ places_of (upcoming_at l.code l.from)
