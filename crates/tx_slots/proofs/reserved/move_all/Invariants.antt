use Rattle.std.proofs.Common.{◌≡◌, ◌+◌, ◌++◌, ◌≤◌, ℕ, length, map}
use Rattle.std.specs.VecDeque.{deque_len, deque_capacity}
use Rattle.std.specs.BTreeMap.{btree_map_len}
use Rattle.tx_history.specs.declared.journal.WaitingContext.{WaitingContext}
use Rattle.tx_slots.proofs.reserved.move_all.Given as goal

abbrev pub invariant-loop-waiting : goal.invariant-loop-waiting
invariant-loop-waiting l = record {
  all : l.queue.items ++ map (λ (item : ℕ × WaitingContext). item.1) l.shelf.entries ≡ l.initial.queue.items ++ map (λ (item : ℕ × WaitingContext). item.1)
      l.initial.shelf.entries;
  room : deque_len l.queue + btree_map_len l.shelf ≤ deque_capacity l.queue;
  len : deque_len l.queue + btree_map_len l.shelf ≡ deque_len l.initial.queue + btree_map_len l.initial.shelf;
  capacity : deque_capacity l.queue ≡ deque_capacity l.initial.queue;
}

abbrev pub decreases-loop-waiting : goal.decreases-loop-waiting
decreases-loop-waiting l = length l.shelf.entries
