use Rattle.std.proofs.Common.{◌≡◌, ◌++◌, drop}
use Rattle.toml.specs.View.{items_view}
use Rattle.cli_config.specs.Tables.{names_in}
use Rattle.cli_config.proofs.look.names_in.Given as goal

abbrev pub invariant-loop-value : goal.invariant-loop-value
invariant-loop-value l = l.names.items ++ names_in (items_view (drop l.value-index l.value-items)) ≡ names_in (items_view l.value-items)
