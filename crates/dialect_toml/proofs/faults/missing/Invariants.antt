use Rattle.std.proofs.Common.{◌≡◌, drop, map}
use Rattle.sw_base.specs.Refusals.{first_of}
use Rattle.toml.specs.View.{table_view}
use Rattle.dialect_toml.specs.Keys.{keys_of}
use Rattle.dialect_toml.specs.Faults.{missing}
use Rattle.dialect_toml.proofs.faults.missing.Given as goal

abbrev pub invariant-loop-key : goal.invariant-loop-key
invariant-loop-key l = first_of (map (missing l.path (table_view l.table)) (drop l.key-index (keys_of l.path.section)))
    ≡ first_of (map (missing l.path (table_view l.table)) (keys_of l.path.section))
