use Rattle.std.proofs.Common.{◌≡◌, ◌++◌, drop}
use Rattle.sw_rules.specs.Breaches.{all_at, all_entry_breaches, entry_breaches}
use Rattle.sw_rules.proofs.all.add_of_entries.Given as goal

abbrev pub invariant-loop-index : goal.invariant-loop-index
invariant-loop-index l = l.found.items ++ all_at (entry_breaches l.flow l.set_up l.group l.number) l.index (drop l.index l.group.entries) ≡ l.fn.found.items ++ all_entry_breaches l.flow l.set_up l.group l.number
