use Rattle.std.proofs.Common.{◌≡◌, take}
use Rattle.tx_engine.proofs.engine.opening.advices_of.Given as goal

abbrev pub invariant-loop-place : goal.invariant-loop-place
invariant-loop-place l = l.advices.entries ≡ take l.place-index l.items
