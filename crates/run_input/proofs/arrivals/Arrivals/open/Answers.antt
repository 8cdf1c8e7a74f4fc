use Rattle.std.proofs.Common.{[], refl}
use Rattle.run_input.proofs.Comings.{came_none}
use Rattle.run_input.proofs.arrivals.Arrivals.open.Goals as goal

pub new-requires : goal.new-requires
new-requires g c = came_none g.B.Input.header g.B.Input.input

pub invariant_of-result : goal.invariant_of-result
invariant_of-result g c =
    rw (c.in-Ok.ensures.gets, c.in_ok-queue.ensures.ok) (refl, ([], came_none g.B.Input.header g.B.Input.input))
