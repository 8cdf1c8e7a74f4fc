use Rattle.std.proofs.Common.{◌≡◌}
use Rattle.tx_pool.proofs.feeding.put.Given as goal

abbrev pub invariant-loop : goal.invariant-loop
invariant-loop g l = (l.putter ≡ l.fn.putter) × (l.offer ≡ l.fn.offer)
