use Rattle.std.proofs.Common.{◌≡◌, ◌++◌, drop}
use Rattle.sw_rules.specs.Breaches.{broken, own_breaches}
use Rattle.sw_rules.specs.declared.breach.At.TheVariants as at
use Rattle.sw_rules.specs.Rules.{group_breaks}
use Rattle.sw_rules.proofs.all.add_of_group.Given as goal

abbrev pub invariant-loop-rule : goal.invariant-loop-rule
invariant-loop-rule l = l.found.items ++ broken l.set_up (at.Group l.number) (λ r. group_breaks r l.set_up l.group) (drop l.rule-index l.rule-items) ≡ l.fn.found.items ++ own_breaches l.set_up l.number l.group
