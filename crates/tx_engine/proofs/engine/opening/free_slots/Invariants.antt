use Rattle.std.proofs.Common.{◌≡◌, replicate}
use Rattle.tx_slots.specs.declared.slot.Slot.TheVariants.{Free}
use Rattle.tx_engine.proofs.engine.opening.free_slots.Given as goal

abbrev pub invariant-loop : goal.invariant-loop
invariant-loop l = l.slots.items ≡ replicate l.counter Free
