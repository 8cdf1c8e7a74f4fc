use Rattle.std.proofs.Common.{◌≡◌, ◌+◌, drop}
use Rattle.sw_rules.specs.Flows.{index_of}
use Rattle.sw_rules.proofs.flows.index_of.Given as goal

abbrev pub invariant-loop-index : goal.invariant-loop-index
invariant-loop-index l = index_of (drop l.index l.entries) l.name + l.index ≡ index_of l.entries l.name
