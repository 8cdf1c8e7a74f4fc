use Rattle.std.proofs.Common.{◌≡◌, length, take}
use Rattle.tx_history.proofs.comparing.are_same_names.Given as goal

abbrev pub invariant-loop-i : goal.invariant-loop-i
invariant-loop-i l = (length l.some ≡ length l.others) × (take l.i l.some ≡ take l.i l.others)
