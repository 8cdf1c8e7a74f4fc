use Rattle.std.proofs.Common.{◌≡◌, drop}
use Rattle.tx_history.specs.Checks.{rises}
use Rattle.tx_history.proofs.checks.rise.Given as goal

abbrev pub invariant-loop-entry : goal.invariant-loop-entry
invariant-loop-entry g l = rises l.least l.next_id (drop l.entry-index l.entries) ≡ rises 1 l.next_id l.entries
