use Rattle.std.proofs.Common.{take}
use Rattle.tx_plant.specs.Wholes.{core_in}
use Rattle.tx_locked.specs.Finished.{AreKept}
use Rattle.tx_locked.proofs.finished.are_kept.Given as goal

abbrev pub invariant-loop-one : goal.invariant-loop-one
invariant-loop-one l = AreKept (core_in l.running) (take l.one-index l.finished)
