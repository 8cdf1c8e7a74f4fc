use Rattle.std.proofs.Common.{◌≡◌, drop}
use Rattle.tx_trace.specs.Follow.{next_recovered}
use Rattle.tx_trace.proofs.tracer.next_recovered.Given as goal

abbrev pub invariant-loop-id : goal.invariant-loop-id
invariant-loop-id l = next_recovered l.code l.rows l.over ≡ next_recovered l.code (drop l.id-index l.rows) l.over
