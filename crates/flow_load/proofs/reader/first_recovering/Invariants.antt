use Rattle.std.proofs.Common.{◌≡◌, ◌+◌, drop}
use Rattle.flow_load.specs.Load.{first_recovering}
use Rattle.flow_load.proofs.reader.first_recovering.Given as goal

abbrev pub invariant-loop-number : goal.invariant-loop-number
invariant-loop-number l = first_recovering (2 + l.number) (drop l.number l.parts) ≡ first_recovering 2 l.parts
