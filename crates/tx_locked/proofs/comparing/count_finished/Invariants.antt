use Rattle.std.proofs.Common.{◌≡◌, ◌≤◌, take}
use Rattle.tx_locked.specs.Receipts.{count_done}
use Rattle.tx_locked.proofs.comparing.count_finished.Given as goal

abbrev pub invariant-loop-entry : goal.invariant-loop-entry
invariant-loop-entry l = (l.count ≤ l.entry-index) × (l.count ≡ count_done (take l.entry-index l.entries))
