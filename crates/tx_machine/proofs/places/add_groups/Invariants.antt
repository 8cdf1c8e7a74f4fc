use Rattle.std.proofs.Common.{◌≡◌, ◌++◌, map, drop}
use Rattle.tx_machine.specs.Due.{places_of}
use Rattle.tx_machine.specs.Table.{Prepare}
use Rattle.tx_machine.specs.Position.{entries_in}
use Rattle.tx_machine.proofs.places.add_groups.Given as goal

abbrev pub invariant-loop-group : goal.invariant-loop-group
invariant-loop-group l = l.places.items ++ places_of (map Prepare (entries_in l.code (drop l.group-index l.groups))) ≡ l.fn.places.items
    ++ places_of (map Prepare (entries_in l.code l.groups))
