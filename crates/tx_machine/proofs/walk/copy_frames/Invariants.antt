use Rattle.std.proofs.Common.{◌≡◌, map, take}
use Rattle.tx_machine.specs.Position.{shown}
use Rattle.tx_machine.proofs.walk.copy_frames.Given as goal

abbrev pub invariant-loop-frame : goal.invariant-loop-frame
invariant-loop-frame l = map shown l.copy.items ≡ map shown (take l.frame-index l.stack)
