-- Rows of the tables, as the statements put them.
use Rattle.std.specs.Prelude.{ℕ, List, [], ◌∷◌, Result}
use Rattle.sqlite.specs.State.{ExecutesInside, HasCleanDisk, State}
use Rattle.sqlite.specs.declared.error.Error.{Error}
use Rattle.sqlite.specs.declared.types.Value.TheVariants.{Blob, Int, Text}
use Rattle.sqlite_value.specs.Order.{Row}
use Rattle.journal_rows.specs.Tables.{Tables, with_joined, with_tx}
use Rattle.journal_tables.specs.Steps.{IsReady}
use Rattle.journal_tables.specs.declared.rows.JoinedRow.{JoinedRow}
use Rattle.journal_tables.specs.declared.rows.TxRow.{TxRow}

-- the values that a statement is given of a row of tx
abbrev pub values_of : TxRow → Row
values_of r = Int r.id ∷ Int r.phase ∷ Int r.told ∷ Text r.doing.now ∷ Int r.tries ∷ Blob r.context.now ∷ []

-- what putting such a row makes of the tables
abbrev pub with_row : TxRow → Tables → Tables
with_row r = with_tx r.id r.phase r.told r.doing.now r.tries r.context.now

abbrev pub with_joined_row : JoinedRow → Tables → Tables
with_joined_row m = with_joined m.id m.place m.part

-- what the store promises of a statement with this text and these values inside a transaction
abbrev pub RunsText : List ℕ → Row → State → State → Result ℕ Error → Type 0
RunsText text values old new result = HasCleanDisk new → IsReady old → ExecutesInside 0 text values old new result
