use Rattle.std.proofs.Common.{◌≡◌}
use Rattle.run_input.specs.Arrivals.{requests_of}
use Rattle.run_input.proofs.leg_source.LegSourceSource.next.Given as goal

abbrev pub invariant-loop : goal.invariant-loop
invariant-loop g l = record {
  given : requests_of l.self.got ≡ requests_of l.fn.self.got;
  ended : l.self.ended ≡ l.fn.self.ended;
}
