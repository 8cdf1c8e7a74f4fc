-- A database of a known schema, a transaction over it, and what a statement or a whole transaction makes of it.
use Rattle.std.specs.Prelude.{◌≡◌, true, IsTrue, Result, OnOk}
use Rattle.std.specs.List.{AllByRecursion}
use Rattle.std.specs.Borrow.{MutBor}
use Rattle.sqlite.specs.Effect.{Database, IsDatabase}
use Rattle.sqlite.specs.Held.{Held, state}
use Rattle.sqlite.specs.State.{State, HasCleanDisk, Survives}
use Rattle.sqlite.specs.declared.error.Error.{Error}
use Rattle.sqlite_catalog.specs.Listing.{IsSound}
use Rattle.sqlite_schema.specs.declared.schema.Schema.{Schema}
use Rattle.sqlite_trees.specs.Tree.{Trees}
use Rattle.sqlite_trees.specs.View.{IsShaped}
use Rattle.sqlite_trees.specs.declared.store.Store.{Ghosts}
use Rattle.sqlite_trees.specs.declared.store.Shape.TheVariants.{Table}

-- a database of this schema that obeys it, with rows in the order of their rowids
pub record IsKept (schema : Schema) (db : Database) : Type 0 where
  pub schema_is : db.schema ≡ schema
  pub sound : IsDatabase db
  pub shaped : AllByRecursion (λ t. IsShaped Table (db.trees t.tree)) schema.tables

-- the same inside a transaction
pub record IsReady (schema : Schema) (s : State) : Type 0 where
  pub now : IsKept schema s.now
  pub mode : s.in_transaction ≡ true

-- the same where the store is open and all is committed
pub record IsCommitted (schema : Schema) (s : State) : Type 0 where
  pub is_open : IsTrue s.is_open
  pub now : IsKept schema s.now
  pub committed : s.committed ≡ s.now

-- the transaction goes on, and this was made of its trees
pub record Steps (schema : Schema) (Made : Trees → Trees → Type 0) (old new : State) : Type 0 where
  pub ready : IsReady schema new
  pub made : Made old.now.trees new.now.trees
  pub committed : new.committed ≡ old.committed
  pub is_open : IsTrue new.is_open

-- what a statement promises inside a transaction, if the disk returns what was written
abbrev pub Runs : {A : Type 0} → Schema → (Trees → Trees → Type 0) → State → State → Result A Error → Type 0
Runs schema Made old new result = HasCleanDisk new → IsReady schema old → OnOk result (Steps schema Made old new)

-- statements in a transaction: it is over the same connection, and a stop or a fault during them leaves what was committed before
pub record KeepsCommitted {S : Type 0} (g : Ghosts S) (old new : MutBor (Held S)) : Type 0 where
  pub same_reference : new.ghost_name ≡ old.ghost_name
  pub survives : Survives (state g old.now) (state g new.now) (λ _. ⊥)

-- this was made of the trees, and committed
pub record Changed (schema : Schema) (Made : Trees → Trees → Type 0) (old new : State) : Type 0 where
  pub all : IsCommitted schema new
  pub made : Made old.now.trees new.now.trees

-- what a whole transaction promises, if the disk returns what was written
abbrev pub Changes : {A : Type 0} → Schema → (Trees → Trees → Type 0) → State → State → Result A Error → Type 0
Changes schema Made old new result = HasCleanDisk new → IsKept schema old.now → OnOk result (Changed schema Made old new)

-- what a stop or a fault inside it may leave, besides what it might leave before
abbrev pub LeavesChange : Schema → (Trees → Trees → Type 0) → State → Trees → Type 0
LeavesChange schema Made old trees = IsKept schema old.now → IsSound schema trees × Made old.now.trees trees

-- a reading leaves what was there before
abbrev pub OnlyReads : Schema → State → State → Type 0
OnlyReads schema old new = Survives old new (λ _. IsKept schema old.now → ⊥)
