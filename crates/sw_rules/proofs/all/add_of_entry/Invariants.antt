use Rattle.std.proofs.Common.{◌≡◌, ◌++◌, drop}
use Rattle.sw_rules.specs.Breaches.{broken, entry_breaches}
use Rattle.sw_rules.specs.declared.breach.At.TheVariants as at
use Rattle.sw_rules.specs.Rules.{entry_breaks}
use Rattle.sw_rules.proofs.all.add_of_entry.Given as goal

abbrev pub invariant-loop-rule : goal.invariant-loop-rule
invariant-loop-rule l = l.found.items ++ broken l.set_up (at.Entry l.place.group l.place.index)
    (λ r. entry_breaks r l.flow l.set_up l.group l.place.index l.entry) (drop l.rule-index l.rule-items) ≡ l.fn.found.items ++ entry_breaches l.flow l.set_up l.group l.place.group l.place.index l.entry
