use Rattle.std.proofs.Common.{◌≡◌, drop, length}
use Rattle.toml.specs.View.{items_view}
use Rattle.flow_toml.specs.Reads.{each}
use Rattle.flow_toml.specs.FlowFile.{entry_of}
use Rattle.toml_tables.specs.Tables.{tables_in}
use Rattle.flow_toml.proofs.ItemLoop.{with_front}
use Rattle.flow_toml.proofs.read.read_entries.Given as goal

abbrev pub invariant-loop-value : goal.invariant-loop-value
invariant-loop-value l =
    with_front l.entries.items (each (entry_of l.group) (length l.entries.items) (tables_in (items_view (drop l.value-index l.value-items))))
    ≡ each (entry_of l.group) 0 (tables_in (items_view l.value-items))
