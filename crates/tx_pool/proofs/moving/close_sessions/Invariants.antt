use Rattle.std.proofs.Common.{◌≡◌, ◌+◌, ◌≤◌, vec_len, vec_capacity}
use Rattle.std.specs.List.{sum_by}
use Rattle.tx_pool.proofs.moving.close_sessions.Given as goal

abbrev pub invariant-loop-session : goal.invariant-loop-session
invariant-loop-session g l = (l.all.parts + vec_len l.sessions ≡ l.fn.all.parts + vec_len l.initial.sessions)
    × (l.all.amount ≡ sum_by vec_len l.receipts.items) × (vec_len l.receipts + vec_len l.sessions ≡ vec_len l.initial.sessions)
    × (vec_len l.initial.sessions ≤ vec_capacity l.receipts)

abbrev pub decreases-loop-session : goal.decreases-loop-session
decreases-loop-session g l = vec_len l.sessions
