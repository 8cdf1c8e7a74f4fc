-- A connection between two statements, whose tables have rows in the order of their rowids.
use Rattle.std.specs.Prelude.{◌≡◌, false, IsTrue}
use Rattle.std.specs.List.{AllByRecursion}
use Rattle.sqlite.specs.Effect.{Database, IsDatabase}
use Rattle.sqlite.specs.State.{State}
use Rattle.sqlite_trees.specs.View.{IsShaped}
use Rattle.sqlite_trees.specs.declared.store.Shape.TheVariants.{Table}

-- each table has its rows in the order of their rowids
abbrev pub AreShaped : Database → Type 0
AreShaped db = AllByRecursion (λ t. IsShaped Table (db.trees t.tree)) db.schema.tables

-- the connection is open, outside a transaction, and all is committed
pub record IsAtRest (s : State) : Type 0 where
  pub is_open : IsTrue s.is_open
  pub autocommit : s.in_transaction ≡ false
  pub committed : s.now ≡ s.committed
  pub sound : IsDatabase s.now
  pub shaped : AreShaped s.now
