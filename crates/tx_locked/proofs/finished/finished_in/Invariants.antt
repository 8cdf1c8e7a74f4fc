use Rattle.std.proofs.Common.{◌≡◌, take}
use Rattle.tx_locked.specs.Finished.{finished_in}
use Rattle.tx_locked.proofs.finished.finished_in.Given as goal

abbrev pub invariant-loop-entry : goal.invariant-loop-entry
invariant-loop-entry l = l.ids.items ≡ finished_in (take l.entry-index l.entries)
