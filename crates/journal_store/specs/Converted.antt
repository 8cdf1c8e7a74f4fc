-- What the conversion of a journal of layout 1 promises, and what is known of the parts of one of layout 2.
use Rattle.std.specs.Prelude.{◌≡◌, ℕ, pos, List, [], ◌∷◌, Bool, None, Some, Result, Ok, Err, IsTrue, IfOk}
use Rattle.sqlite.specs.State.{State, HasCleanDisk}
use Rattle.sqlite.specs.declared.types.Value.TheVariants.{Int, Text}
use Rattle.sqlite_value.specs.Order.{Row}
use Rattle.sqlite_trees.specs.Tree.{Trees}
use Rattle.sqlite_catalog.specs.Listing.{IsSound}
use Rattle.journal_tables.specs.Schema.{first_schema, journal_schema}
use Rattle.journal_rows.specs.Faults.{IsFaultAs}
use Rattle.journal_rows.specs.Tables.{Tables, first_tables_of, tables_of}
use Rattle.journal_rows.specs.Convert.{converted}
use Rattle.journal_rows.specs.declared.layout.Layout.TheVariants.{First}
use Rattle.journal_tables.specs.Parts.{AreParts}
use Rattle.journal_tables.specs.Steps.{IsJournal}
use Rattle.journal_tables.specs.Converting.{IsFirst}
use Rattle.journal_tables.specs.declared.parts.Parts.{Parts}
use Rattle.journal_store.specs.Stored.{OnlyReads}
use Rattle.journal_store.specs.declared.error.JournalError.{JournalError}
use Rattle.journal_store.specs.declared.error.JournalError.TheVariants.{BadRow, OutOfMemory, Failed, Store}

-- a part as the query shows it
abbrev pub part_shown : ℕ → List ℕ → Row
part_shown n name = Int (pos n) ∷ Text name ∷ []

-- the parts that were read, if they are in order
abbrev pub Knowing : {E : Type 0} → State → State → Result (Bool × Parts) E → Type 0
Knowing old new result = HasCleanDisk new → IsJournal old.now → IfOk result (λ k. IsTrue k.0 → AreParts k.1 (tables_of old.now.trees).part)

-- no row was at fault, and everything was converted and committed
pub record WasConverted (old new : State) (parts : Parts) : Type 0 where
  pub fine : IsFaultAs First (first_tables_of old.now.trees) None
  pub now : IsJournal new.now
  pub tables : tables_of new.now.trees ≡ converted (first_tables_of old.now.trees)
  pub parts_are : AreParts parts (tables_of new.now.trees).part
  pub committed : new.committed ≡ new.now
  pub is_open : IsTrue new.is_open

-- what the conversion of layout 1 promises, if the disk returns what was written
abbrev pub ConvertsFirst : State → State → Result Parts JournalError → Type 0
ConvertsFirst old new result = HasCleanDisk new → IsFirst old.now → IfOk result (WasConverted old new)

-- a row at fault is the first one of layout 1; the journal's own lists are made only where none is
abbrev pub NamesFault : {A : Type 0} → Tables → Result A JournalError → Type 0
NamesFault t (Err (BadRow bad)) = IsFaultAs First t (Some bad)
NamesFault t (Err OutOfMemory) = IsFaultAs First t None
NamesFault t (Err Failed) = ⊥
NamesFault t (Err (Store cause)) = Unit {0}
NamesFault t (Ok a) = Unit {0}

-- what a stop or a fault inside may leave, besides what it might leave before
abbrev pub LeavesFirst : State → Trees → Type 0
LeavesFirst old trees =
    IsFirst old.now
    → IsFaultAs First (first_tables_of old.now.trees) None × IsSound journal_schema trees × (tables_of trees ≡ converted (first_tables_of old.now.trees))

-- A refused open names a row only where the database is in layout 1, and then the first one at fault. It is out of memory only
-- where layout 1 is read and no row is at fault. Everything else is a refusal of the store.
abbrev pub IsNaming : Trees → JournalError → Type 0
IsNaming was (BadRow bad) = IsSound first_schema was × IsFaultAs First (first_tables_of was) (Some bad)
IsNaming was OutOfMemory = IsSound first_schema was × IsFaultAs First (first_tables_of was) None
IsNaming was Failed = ⊥
IsNaming was (Store cause) = Unit {0}

-- where a row is at fault, only reading was done
abbrev pub OnlyReadIf : {A : Type 0} → State → State → Result A JournalError → Type 0
OnlyReadIf old new (Err (BadRow bad)) = OnlyReads IsFirst old new
OnlyReadIf old new (Err OutOfMemory) = Unit {0}
OnlyReadIf old new (Err Failed) = Unit {0}
OnlyReadIf old new (Err (Store cause)) = Unit {0}
OnlyReadIf old new (Ok a) = Unit {0}

-- where a row is at fault, what holds of the store
abbrev pub IfBad : Type 0 → JournalError → Type 0
IfBad P (BadRow bad) = P
IfBad P OutOfMemory = Unit {0}
IfBad P Failed = Unit {0}
IfBad P (Store cause) = Unit {0}
