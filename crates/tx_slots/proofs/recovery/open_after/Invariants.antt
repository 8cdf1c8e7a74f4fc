use Rattle.std.proofs.Common.{◌≡◌, ◌≤◌, length, take}
use Rattle.flow_model.specs.declared.flow.Flow.{Flow}
use Rattle.tx_slots.specs.Rows.{later_rows}
use Rattle.tx_slots.proofs.recovery.open_after.Given as goal

abbrev pub invariant-loop-next : goal.invariant-loop-next
invariant-loop-next l = record {
  few : l.count ≤ l.next-index;
  counted : (f : Flow) → l.count ≡ length (later_rows f (take l.next-index l.rows) l.id);
}
