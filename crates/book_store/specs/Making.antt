-- The making of a book's tables.
use Rattle.std.specs.Prelude.{◌≡◌, ℕ, List, [], ◌∷◌, IsTrue, Result, OnOk}
use Rattle.sqlite.specs.State.{State, HasCleanDisk}
use Rattle.sqlite.specs.declared.error.Error.{Error}
use Rattle.sqlite_catalog.specs.Listing.{IsSound}
use Rattle.sqlite_trees.specs.Tree.{Trees}
use Rattle.store_base.specs.Making.{IsStage, no_schema}
use Rattle.store_base.specs.Tables.{IsCommitted, IsReady}
use Rattle.book_store.specs.Lines.{lines_of}
use Rattle.book_store.specs.Schema.{book_schema}
use Rattle.book_store.specs.Steps.{salt_row}

-- a new book with this salt: it has no item
pub record IsNew (bytes : List ℕ) (db : Trees) : Type 0 where
  pub salt : db 0 ≡ salt_row bytes ∷ []
  pub lines : lines_of db ≡ []

-- the transaction has a new book, and nothing was committed
pub record Filled (bytes : List ℕ) (old new : State) : Type 0 where
  pub ready : IsReady book_schema new
  pub made : IsNew bytes new.now.trees
  pub committed : new.committed ≡ old.committed
  pub is_open : IsTrue new.is_open

-- what that promises, if the disk returns what was written
abbrev pub Fills : {A : Type 0} → List ℕ → State → State → Result A Error → Type 0
Fills bytes old new result = HasCleanDisk new → IsStage no_schema old → OnOk result (Filled bytes old new)

-- there is a new book, and all is committed
pub record IsMade (bytes : List ℕ) (new : State) : Type 0 where
  pub all : IsCommitted book_schema new
  pub made : IsNew bytes new.now.trees

-- what the making promises of an empty database, if the disk returns what was written
abbrev pub MakesBook : {A : Type 0} → List ℕ → State → State → Result A Error → Type 0
MakesBook bytes old new result = HasCleanDisk new → old.now.schema ≡ no_schema → OnOk result (IsMade bytes new)

-- what a stop or a fault inside it may leave, besides what it might leave before
abbrev pub LeavesNew : List ℕ → State → Trees → Type 0
LeavesNew bytes old trees = old.now.schema ≡ no_schema → IsSound book_schema trees × IsNew bytes trees
