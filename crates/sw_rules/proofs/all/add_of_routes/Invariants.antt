use Rattle.std.proofs.Common.{◌≡◌, ◌++◌, drop}
use Rattle.sw_rules.specs.Breaches.{all_at, route_breaches}
use Rattle.sw_rules.proofs.all.add_of_routes.Given as goal

abbrev pub invariant-loop-number : goal.invariant-loop-number
invariant-loop-number l = l.found.items ++ all_at (route_breaches l.flow l.set_up) l.number (drop l.number l.set_up.routes) ≡ l.fn.found.items ++ all_at (route_breaches l.flow l.set_up) 0 l.set_up.routes
