use Rattle.std.proofs.Common.{◌≡◌, ◌++◌, drop, take, option_map}
use Rattle.flow_load.specs.Words.{cut}
use Rattle.flow_load.proofs.words.cut.Given as goal

abbrev pub invariant-loop-index : goal.invariant-loop-index
invariant-loop-index l = option_map (λ p. (take l.index l.text ++ p.0, p.1)) (cut l.byte (drop l.index l.text)) ≡ cut l.byte l.text
