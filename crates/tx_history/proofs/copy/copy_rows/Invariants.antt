use Rattle.std.proofs.Common.{◌≡◌, take}
use Rattle.tx_history.proofs.copy.copy_rows.Given as goal

abbrev pub invariant-loop-id : goal.invariant-loop-id
invariant-loop-id l = l.copies.items ≡ take l.id-index l.rows
