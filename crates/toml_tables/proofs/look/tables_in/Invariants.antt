use Rattle.std.proofs.Common.{◌≡◌, ◌++◌, drop}
use Rattle.toml.specs.View.{items_view}
use Rattle.toml_tables.specs.Tables.{tables_in, views}
use Rattle.toml_tables.proofs.look.tables_in.Given as goal

abbrev pub invariant-loop-value : goal.invariant-loop-value
invariant-loop-value l = views l.tables.items ++ tables_in (items_view (drop l.value-index l.value-items)) ≡ tables_in (items_view l.value-items)
