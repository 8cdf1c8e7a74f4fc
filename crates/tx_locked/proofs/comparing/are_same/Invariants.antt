use Rattle.std.proofs.Common.{◌≡◌, length, take}
use Rattle.tx_locked.proofs.comparing.are_same.Given as goal

abbrev pub invariant-loop-i : goal.invariant-loop-i
invariant-loop-i l = (length l.entries ≡ length l.others) × (take l.i l.entries ≡ take l.i l.others)
