use Rattle.std.proofs.Common.{◌≡◌, ◌≤◌, ◌+◌, length, drop, Ok}
use Rattle.flow_load.specs.Reads.{◌>>=◌}
use Rattle.flow_load.specs.Groups.{walks, with_groups}
use Rattle.flow_load.proofs.groups.read_groups.Given as goal

abbrev pub invariant-loop-number : goal.invariant-loop-number
invariant-loop-number l = record {
  within : l.left.at + length l.left.steps.now ≤ length l.steps;
  read : (walks l.parts l.line l.number l.left.at l.left.seen l.left.steps.now (drop l.number l.starts) >>= λ w. Ok (with_groups l.groups.items w)) ≡ walks l.parts l.line 0 0 0
      l.steps l.starts;
}
