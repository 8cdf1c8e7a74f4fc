use Rattle.std.proofs.Common.{◌≡◌, ◌≤◌, take}
use Rattle.tx_locked.specs.Receipts.{count_shelved}
use Rattle.tx_locked.proofs.comparing.count_on_shelf.Given as goal

abbrev pub invariant-loop-entry : goal.invariant-loop-entry
invariant-loop-entry l = (l.count ≤ l.entry-index) × (l.count ≡ count_shelved (take l.entry-index l.entries))
