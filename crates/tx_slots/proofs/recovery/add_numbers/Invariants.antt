use Rattle.std.proofs.Common.{◌≡◌, ◌++◌, map, take}
use Rattle.tx_history.specs.History.{number_of}
use Rattle.tx_slots.proofs.recovery.add_numbers.Given as goal

abbrev pub invariant-loop-name : goal.invariant-loop-name
invariant-loop-name l = l.numbers.items ≡ l.initial.numbers.items ++ map (number_of l.code) (take l.name-index l.names)
