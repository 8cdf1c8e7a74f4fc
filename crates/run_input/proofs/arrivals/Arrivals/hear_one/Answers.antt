use Rattle.std.proofs.Common.{[]}
use Rattle.run_input.proofs.Comings.{requests_after, since_after, since_none}
use Rattle.run_input.proofs.arrivals.Arrivals.hear_one.Goals as goal

pub returns-clause-request : goal.returns-clause-request
returns-clause-request g c = requests_after c.args.self c.get.new.self c.in-Some.arrival _ c.in-Some.ensures c.hand_out-request.ensures.request

pub returns-clause-came : goal.returns-clause-came
returns-clause-came g c =
    since_after c.args.self c.args.self c.get.new.self c.in-Some.arrival [] c.hand_out-request.new.passed.items (since_none c.args.self) c.in-Some.ensures
    (rw c.in_ok-passed.ensures.items at c.hand_out-request.ensures.passed)
