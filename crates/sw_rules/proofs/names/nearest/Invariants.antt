use Rattle.std.proofs.Common.{◌<◌, IfSome, length}
use Rattle.sw_rules.proofs.names.nearest.Given as goal

abbrev pub invariant-loop-index : goal.invariant-loop-index
invariant-loop-index l = IfSome l.near (λ i. i < length l.names)
