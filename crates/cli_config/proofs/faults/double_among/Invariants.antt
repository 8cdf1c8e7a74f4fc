use Rattle.std.proofs.Common.{◌≡◌, drop}
use Rattle.sw_base.specs.Refusals.{first_at}
use Rattle.toml_tables.specs.Tables.{views}
use Rattle.cli_config.specs.Faults.{double}
use Rattle.cli_config.proofs.faults.double_among.Given as goal

abbrev pub invariant-loop-number : goal.invariant-loop-number
invariant-loop-number l =
    first_at (double l.section l.key (views l.tables)) l.number (views (drop l.number l.tables)) ≡ first_at (double l.section l.key (views l.tables)) 0
    (views l.tables)
