use Rattle.std.proofs.Common.{◌≡◌, drop}
use Rattle.tx_slots.specs.Rows.{next_row}
use Rattle.tx_slots.proofs.recovery.next_slot.Given as goal

abbrev pub invariant-loop-next : goal.invariant-loop-next
invariant-loop-next l = next_row l.code l.rows l.id ≡ next_row l.code (drop l.next-index l.rows) l.id
