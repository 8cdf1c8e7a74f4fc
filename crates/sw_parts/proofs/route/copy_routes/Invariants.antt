use Rattle.std.proofs.Common.{◌≡◌, take}
use Rattle.sw_parts.proofs.route.copy_routes.Given as goal

abbrev pub invariant-loop-routing : goal.invariant-loop-routing
invariant-loop-routing l = l.copy.items ≡ take l.routing-index l.routes
