use Rattle.std.proofs.Common.{◌≡◌, drop}
use Rattle.tx_trace.specs.Starts.{is_start}
use Rattle.tx_trace.proofs.known.find_start.Given as goal

abbrev pub invariant-loop-group : goal.invariant-loop-group
invariant-loop-group l = is_start l.name (drop l.group-index l.groups) ≡ is_start l.name l.groups
