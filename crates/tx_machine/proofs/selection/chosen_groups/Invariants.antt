use Rattle.std.proofs.Common.{◌≡◌, ◌<◌, ◌++◌, length, take}
use Rattle.std.specs.List.{All, flat_map}
use Rattle.flow_model.specs.Places.{entries_named}
use Rattle.flow_asm.specs.Steps.{layout}
use Rattle.tx_machine.specs.Names.{names_of}
use Rattle.tx_machine.specs.Position.{entries_in}
use Rattle.tx_machine.specs.Table.{chosen}
use Rattle.tx_machine.proofs.selection.chosen_groups.Given as goal

abbrev pub invariant-loop-name : goal.invariant-loop-name
invariant-loop-name l = record {
  can : (goal.iterator-loop-name).can_next l.name-iterator;
  finite : (goal.iterator-loop-name).is_finite l.name-iterator;
  placed_entries : entries_in l.code l.groups.items ++ flat_map (entries_named l.code) (take l.name-iterator.left (names_of l.name-iterator.rest.now))
      ≡ chosen l.code l.text;
  within : All (λ g. g < length (layout l.code)) l.groups.items;
}
