-- The making of tables inside one transaction.
use Rattle.std.specs.Prelude.{◌≡◌, true, [], IsTrue, Result, OnOk}
use Rattle.std.specs.List.{AllByRecursion}
use Rattle.sqlite.specs.Effect.{IsDatabase}
use Rattle.sqlite.specs.State.{State, HasCleanDisk}
use Rattle.sqlite.specs.declared.error.Error.{Error}
use Rattle.sqlite_schema.specs.declared.schema.Schema.{Schema}

-- a database without tables
abbrev pub no_schema : Schema
no_schema = record { tables = []; indexes = []; views = [] }

-- inside a transaction over this schema, with no row in its tables
pub record IsStage (schema : Schema) (s : State) : Type 0 where
  pub schema_is : s.now.schema ≡ schema
  pub mode : s.in_transaction ≡ true
  pub empty : AllByRecursion (λ t. s.now.trees t.tree ≡ []) schema.tables

-- the tables of this schema were made, without a row, and nothing was committed
pub record Makes (schema : Schema) (old new : State) : Type 0 where
  pub stage : IsStage schema new
  pub sound : IsDatabase new.now
  pub committed : new.committed ≡ old.committed
  pub is_open : IsTrue new.is_open

-- what the making of one table promises, if the disk returns what was written
abbrev pub Creates : {A : Type 0} → Schema → Schema → State → State → Result A Error → Type 0
Creates schema next old new result = HasCleanDisk new → IsStage schema old → OnOk result (Makes next old new)
