use Rattle.std.proofs.Common.{◌≡◌, drop}
use Rattle.toml_tables.specs.Tables.{views}
use Rattle.dialect_toml.specs.Rows.{row_at}
use Rattle.dialect_toml.proofs.rows.row_of.Given as goal

abbrev pub invariant-loop-table : goal.invariant-loop-table
invariant-loop-table l = row_at l.page (views (drop l.table-index l.fields)) l.number ≡ row_at l.page (views l.fields) l.number
