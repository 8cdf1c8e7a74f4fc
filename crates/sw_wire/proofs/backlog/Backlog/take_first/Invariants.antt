use Rattle.std.proofs.Common.{◌≡◌, ◌≤◌, ◌+◌}
use Rattle.std.specs.VecDeque.{deque_len, deque_capacity}
use Rattle.sw_wire.specs.Boxes.{first_of, after_first, before_first}
use Rattle.sw_wire.proofs.backlog.Backlog.take_first.Given as goal

abbrev pub invariant-loop-item : goal.invariant-loop-item
invariant-loop-item g l =
    let p = g.P.Picks.picks l.wanted in
    record {
      first : first_of p l.fn.self ≡ first_of p l.self-inside.held.items;
      after : after_first p l.fn.self ≡ after_first p l.self-inside.held.items;
      before : before_first p l.fn.self ≡ before_first p l.self-inside.held.items + l.dropped;
      few : deque_len l.self-inside.held + l.dropped ≤ 64;
      room : 64 ≤ deque_capacity l.self-inside.held;
      same : l.wanted ≡ l.fn.wanted;
    }

abbrev pub decreases-loop-item : goal.decreases-loop-item
decreases-loop-item g l = deque_len l.self-inside.held
