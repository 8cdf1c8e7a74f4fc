use Rattle.std.proofs.Common.{◌≡◌, drop}
use Rattle.tx_engine.specs.Opening.{unknown_of}
use Rattle.tx_engine.proofs.engine.opening.check_rows.Given as goal

abbrev pub invariant-loop-id : goal.invariant-loop-id
invariant-loop-id l = unknown_of l.code l.rows ≡ unknown_of l.code (drop l.id-index l.rows)
