use Rattle.std.proofs.Common.{◌≡◌, take}
use Rattle.tx_history.proofs.copy.copy_advices.Given as goal

abbrev pub invariant-loop-place : goal.invariant-loop-place
invariant-loop-place l = l.copies.items ≡ take l.place-index l.advices
