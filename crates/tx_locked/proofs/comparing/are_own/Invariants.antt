use Rattle.std.proofs.Common.{◌≡◌, ◌≤◌, length, take}
use Rattle.tx_locked.specs.Receipts.{own_numbers}
use Rattle.tx_locked.proofs.comparing.are_own.Given as goal

abbrev pub invariant-loop-entry : goal.invariant-loop-entry
invariant-loop-entry l = (l.next ≤ length l.receipts) × (own_numbers l.session (take l.entry-index l.entries) ≡ take l.next l.receipts)
