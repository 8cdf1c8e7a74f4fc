use Rattle.std.proofs.Common.{◌≡◌, drop, map}
use Rattle.sw_base.specs.Refusals.{first_of}
use Rattle.toml.specs.View.{table_view}
use Rattle.cli_config.specs.Keys.{keys_of}
use Rattle.cli_config.specs.Faults.{excludes}
use Rattle.cli_config.proofs.faults.excludes.Given as goal

abbrev pub invariant-loop-key : goal.invariant-loop-key
invariant-loop-key l = first_of (map (excludes l.path (table_view l.table)) (drop l.key-index (keys_of l.path.section)))
    ≡ first_of (map (excludes l.path (table_view l.table)) (keys_of l.path.section))
