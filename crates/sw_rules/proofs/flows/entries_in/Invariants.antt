use Rattle.std.proofs.Common.{◌≡◌, drop}
use Rattle.sw_rules.specs.Flows.{entries_in}
use Rattle.sw_rules.proofs.flows.entries_in.Given as goal

abbrev pub invariant-loop-group : goal.invariant-loop-group
invariant-loop-group l = entries_in (drop l.group-index l.groups) l.name ≡ entries_in l.groups l.name
