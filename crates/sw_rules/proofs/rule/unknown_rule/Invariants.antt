use Rattle.std.proofs.Common.{◌≡◌, drop}
use Rattle.sw_rules.specs.Spelling.{unknown_from}
use Rattle.sw_rules.proofs.rule.unknown_rule.Given as goal

abbrev pub invariant-loop-index : goal.invariant-loop-index
invariant-loop-index l = unknown_from l.index (drop l.index l.names) ≡ unknown_from 0 l.names
