use Rattle.std.proofs.Common.{◌≡◌, drop, find}
use Rattle.flow_load.specs.Words.{is_spelled}
use Rattle.flow_load.proofs.words.kind_of.Given as goal

abbrev pub invariant-loop-kind : goal.invariant-loop-kind
invariant-loop-kind l = find (is_spelled l.word) (drop l.kind-index l.kinds) ≡ find (is_spelled l.word) l.kinds
