use Rattle.std.proofs.Common.{◌≡◌, map, take}
use Rattle.cli_check.specs.SetUps.{route_of}
use Rattle.cli_check.proofs.set_up.set_up_routes.Given as goal

abbrev pub invariant-loop-route : goal.invariant-loop-route
invariant-loop-route l = l.routes.items ≡ map route_of (take l.route-index l.stated)
