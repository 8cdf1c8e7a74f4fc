use Rattle.std.proofs.Common.{}
use Rattle.tx_trace.specs.Follow.{Follows}
use Rattle.test_pool.proofs.lines.write_trace.Given as goal

abbrev pub invariant-loop : goal.invariant-loop
invariant-loop g l = Follows l.engine l.tracer
