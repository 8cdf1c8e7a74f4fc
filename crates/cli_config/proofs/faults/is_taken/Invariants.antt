use Rattle.std.proofs.Common.{◌≡◌, drop}
use Rattle.toml_tables.specs.Tables.{views}
use Rattle.cli_config.specs.Faults.{is_taken}
use Rattle.cli_config.proofs.faults.is_taken.Given as goal

abbrev pub invariant-loop-table : goal.invariant-loop-table
invariant-loop-table l = is_taken (views (drop l.table-index l.tables)) l.key l.text ≡ is_taken (views l.tables) l.key l.text
