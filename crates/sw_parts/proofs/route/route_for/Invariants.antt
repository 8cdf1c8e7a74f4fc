use Rattle.std.proofs.Common.{◌≡◌, drop, option_map}
use Rattle.sw_parts.specs.Routes.{longer, route_for}
use Rattle.sw_parts.proofs.route.route_for.Given as goal

-- the best so far, or a longer one of those to come
abbrev pub invariant-loop-routing : goal.invariant-loop-routing
invariant-loop-routing l = longer (option_map (λ r. r.now) l.best) (route_for l.card (drop l.routing-index l.routes)) ≡ route_for l.card l.routes
