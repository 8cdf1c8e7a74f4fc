use Rattle.std.proofs.Common.{◌≡◌, drop}
use Rattle.toml_tables.specs.Tables.{views}
use Rattle.dialect_toml.specs.Faults.{is_taken}
use Rattle.dialect_toml.proofs.faults.is_taken.Given as goal

abbrev pub invariant-loop-table : goal.invariant-loop-table
invariant-loop-table l = is_taken (views (drop l.table-index l.fields)) l.number ≡ is_taken (views l.fields) l.number
