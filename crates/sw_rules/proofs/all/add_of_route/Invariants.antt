use Rattle.std.proofs.Common.{◌≡◌, ◌++◌, drop}
use Rattle.sw_rules.specs.Breaches.{broken, route_breaches}
use Rattle.sw_rules.specs.declared.breach.At.TheVariants as at
use Rattle.sw_rules.specs.Rules.{route_breaks}
use Rattle.sw_rules.proofs.all.add_of_route.Given as goal

abbrev pub invariant-loop-rule : goal.invariant-loop-rule
invariant-loop-rule l = l.found.items ++ broken l.set_up (at.Route l.number) (λ r. route_breaks r l.flow l.route) (drop l.rule-index l.rule-items) ≡ l.fn.found.items ++ route_breaches l.flow l.set_up l.number l.route
