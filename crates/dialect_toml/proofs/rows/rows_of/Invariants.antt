use Rattle.std.proofs.Common.{◌≡◌, ℕ, ◌<◌, None, get_or, length}
use Rattle.toml_tables.specs.Tables.{views}
use Rattle.dialect_toml.specs.Rows.{row_at}
use Rattle.dialect_toml.proofs.rows.rows_of.Given as goal

abbrev pub invariant-loop-number : goal.invariant-loop-number
invariant-loop-number l = (length l.rows ≡ 129) × ((k : ℕ) → k < l.number → get_or l.rows k None ≡ row_at l.page (views l.fields) k)
