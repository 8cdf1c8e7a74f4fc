use Rattle.std.proofs.Common.{ap, ◌∙◌, arith}
use Rattle.run_input.specs.Arrivals.{Hearing}
use Rattle.run_input.proofs.Comings.{last_after, requests_after, since_after}
use Rattle.run_input.proofs.leg_source.LegSource.hear.Goals as goal

pub invariant_of-self-2 : goal.invariant_of-self-2
invariant_of-self-2 g c =
    let was = c.self.inside in
    let handed = c.hand_out-request.ensures in
    let none = ap (λ (h : Hearing). h.end) c.self.view_is ∙ c.requires.open in (
      since_after g.L.Leg.before was.arrivals c.get.new.self c.in_ok-arrival.arrival was.passed.items c.hand_out-request.new.passed.items
          c.self.invariant.0 c.in_ok-arrival.ensures handed.passed,
      rw (handed.end, c.in_ok-arrival.ensures) (last_after was.end c.in_ok-arrival.arrival was.arrivals none),
      omega (arith, handed.capacity, c.self.invariant.2),
    )

pub returns-clause-given : goal.returns-clause-given
returns-clause-given g c = rw (← c.self.view_is) (requests_after c.self.inside.arrivals c.get.new.self c.in_ok-arrival.arrival _ c.in_ok-arrival.ensures
    c.hand_out-request.ensures.request)
