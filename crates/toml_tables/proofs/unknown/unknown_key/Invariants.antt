use Rattle.std.proofs.Common.{◌≡◌}
use Rattle.std.specs.String.{string_cmp}
use Rattle.std.specs.List.Sorted.{IsStrictlySortedBy}
use Rattle.std.specs.Map.{keys_of}
use Rattle.toml.specs.View.{members_view}
use Rattle.toml_tables.specs.Unknown.{unknown_key}
use Rattle.toml_tables.proofs.unknown.unknown_key.Given as goal

abbrev pub invariant-loop-name : goal.invariant-loop-name
invariant-loop-name g l =
    (goal.iterator-loop-name g).can_next l.name-iterator × (goal.iterator-loop-name g).is_finite l.name-iterator
    × (unknown_key g.K.AsStr.text l.keys (members_view l.name-iterator) ≡ unknown_key g.K.AsStr.text l.keys (members_view l.table.entries))
    × IsStrictlySortedBy string_cmp (keys_of l.name-iterator)
