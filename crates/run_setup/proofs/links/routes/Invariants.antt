use Rattle.std.proofs.Common.{◌≡◌, map, take}
use Rattle.run_setup.specs.Plans.{routing_of}
use Rattle.run_setup.proofs.links.routes.Given as goal

abbrev pub invariant-loop-route : goal.invariant-loop-route
invariant-loop-route l = l.routes.items ≡ map routing_of (take l.route-index l.route-items)
