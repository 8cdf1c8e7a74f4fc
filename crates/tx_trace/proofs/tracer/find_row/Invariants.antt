use Rattle.std.proofs.Common.{◌≡◌, drop}
use Rattle.tx_history.specs.Keys.{look}
use Rattle.tx_trace.proofs.tracer.find_row.Given as goal

abbrev pub invariant-loop-number : goal.invariant-loop-number
invariant-loop-number l = look l.id l.rows ≡ look l.id (drop l.number-index l.rows)
