use Rattle.std.proofs.Common.{◌≡◌, ◌+◌, vec_len}
use Rattle.tx_pool.proofs.moving.open_sessions.Given as goal

abbrev pub invariant-loop-opened : goal.invariant-loop-opened
invariant-loop-opened g l = (l.all.parts + l.opened ≡ l.count + 1) × (l.all.amount ≡ 0) × (vec_len l.sessions ≡ l.opened)
