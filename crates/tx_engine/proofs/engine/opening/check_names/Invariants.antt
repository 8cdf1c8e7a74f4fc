use Rattle.std.proofs.Common.{◌≡◌, drop}
use Rattle.tx_engine.specs.Opening.{unknown_in}
use Rattle.tx_engine.proofs.engine.opening.check_names.Given as goal

abbrev pub invariant-loop-name : goal.invariant-loop-name
invariant-loop-name l = unknown_in l.code l.id l.names ≡ unknown_in l.code l.id (drop l.name-index l.names)
