use Rattle.std.proofs.Common.{◌≡◌, ◌≤◌, drop}
use Rattle.flow_load.specs.Words.{value_on}
use Rattle.flow_load.proofs.words.value.Given as goal

abbrev pub invariant-loop-c : goal.invariant-loop-c
invariant-loop-c l = record { bound : l.value ≤ 100000; rest : value_on l.value (drop l.c-index l.word) ≡ value_on 0 l.word }
