use Rattle.std.proofs.Common.{◌≡◌, drop}
use Rattle.toml.specs.View.{items_view}
use Rattle.cli_config.specs.Faults.{are_names}
use Rattle.cli_config.proofs.faults.are_names.Given as goal

abbrev pub invariant-loop-value : goal.invariant-loop-value
invariant-loop-value l = are_names l.most (items_view (drop l.value-index l.value-items)) ≡ are_names l.most (items_view l.value-items)
