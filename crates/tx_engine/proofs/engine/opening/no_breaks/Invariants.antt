use Rattle.std.proofs.Common.{◌≡◌, replicate, false}
use Rattle.tx_engine.proofs.engine.opening.no_breaks.Given as goal

abbrev pub invariant-loop : goal.invariant-loop
invariant-loop l = l.breaks.items ≡ replicate l.counter false
