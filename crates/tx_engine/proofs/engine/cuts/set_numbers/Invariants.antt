use Rattle.std.proofs.Common.{◌≡◌}
use Rattle.std.specs.Prelude.{filter}
use Rattle.std.specs.List.{range_with_len}
use Rattle.tx_slots.specs.Slots.{flag}
use Rattle.tx_engine.proofs.engine.cuts.set_numbers.Given as goal

abbrev pub invariant-loop-number : goal.invariant-loop-number
invariant-loop-number l = l.numbers.items ≡ filter (flag l.flags) (range_with_len 0 l.number)
