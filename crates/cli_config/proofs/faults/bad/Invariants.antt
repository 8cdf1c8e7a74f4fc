use Rattle.std.proofs.Common.{◌≡◌, drop, map}
use Rattle.sw_base.specs.Refusals.{first_of}
use Rattle.toml.specs.View.{table_view}
use Rattle.cli_config.specs.Keys.{keys_of}
use Rattle.cli_config.specs.Faults.{bad}
use Rattle.cli_config.proofs.faults.bad.Given as goal

abbrev pub invariant-loop-key : goal.invariant-loop-key
invariant-loop-key l = first_of (map (bad l.path (table_view l.table)) (drop l.key-index (keys_of l.path.section)))
    ≡ first_of (map (bad l.path (table_view l.table)) (keys_of l.path.section))
