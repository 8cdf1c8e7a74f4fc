use Rattle.std.proofs.Common.{◌≡◌, take}
use Rattle.flow_asm.proofs.code.copy_starts.Given as goal

abbrev pub invariant-loop-start : goal.invariant-loop-start
invariant-loop-start l = l.copy.items ≡ take l.start-index l.starts
