use Rattle.std.proofs.Common.{◌≡◌, drop, length}
use Rattle.toml.specs.View.{items_view}
use Rattle.flow_toml.specs.Reads.{each}
use Rattle.flow_toml.specs.FlowFile.{group_of}
use Rattle.toml_tables.specs.Tables.{tables_in}
use Rattle.flow_toml.proofs.ItemLoop.{with_front}
use Rattle.flow_toml.proofs.read.read_groups.Given as goal

abbrev pub invariant-loop-value : goal.invariant-loop-value
invariant-loop-value l =
    with_front l.groups.items (each group_of (length l.groups.items) (tables_in (items_view (drop l.value-index l.value-items))))
    ≡ each group_of 0 (tables_in (items_view l.value-items))
