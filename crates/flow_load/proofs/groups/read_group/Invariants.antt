use Rattle.std.proofs.Common.{◌≡◌, ◌+◌, drop, None, Ok}
use Rattle.flow_load.specs.Reads.{◌>>=◌}
use Rattle.flow_load.specs.Groups.{walk, with_entries}
use Rattle.flow_load.proofs.groups.read_group.Given as goal

abbrev pub invariant-loop-k : goal.invariant-loop-k
invariant-loop-k l = (walk l.parts l.line l.group l.select_due (l.at + l.k) l.seen (drop l.k l.steps) >>= λ w. Ok (with_entries l.entries.items w))
    ≡ walk l.parts l.line l.group None l.at l.fn.left.seen l.steps
