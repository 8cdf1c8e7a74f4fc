use Rattle.std.proofs.Common.{◌≡◌, ◌+◌}
use Rattle.tx_trace.specs.Follow.{Follows, count_of}
use Rattle.tx_trace.proofs.tracer.Tracer.line_at.Given as goal

abbrev pub invariant-loop : goal.invariant-loop
invariant-loop l = record {
  follows : Follows l.engine l.self;
  counted : count_of l.self + 1 ≡ l.counter;
}
