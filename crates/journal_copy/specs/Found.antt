-- The journal that an opening of a connection finds.
use Rattle.std.specs.Prelude.{◌≡◌, ◌==◌, ◌⊎◌, ⊤, ℕ, false, length, Option, Some, None, IfSome, IsTrue, if◌then◌else◌}
use Rattle.sqlite_trees.specs.declared.store.Store.{Ghosts}
use Rattle.sqlite.specs.Held.{Held, state}
use Rattle.sqlite.specs.State.{IsLive}
use Rattle.journal_rows.specs.Tables.{Tables}
use Rattle.journal_rows.specs.Faults.{IsFaultIn, IsViewIn}
use Rattle.journal_rows.specs.declared.error.BadRow.{BadRow}
use Rattle.journal_store.specs.Kept.{IsCleanJournal, Kept, OpensAs, kept}
use Rattle.journal_store.specs.Left.{doubt_of}
use Rattle.journal_store.specs.Converted.{IsNaming}
use Rattle.journal_store.specs.declared.journal.Left.{Left}
use Rattle.journal_store.specs.declared.error.JournalError.TheVariants as journal
use Rattle.journal_copy.specs.declared.found.FoundJournal.{FoundJournal}
use Rattle.journal_store.specs.declared.error.JournalError.{JournalError}
use Rattle.journal_copy.specs.Errors.{error_of_journal}
use Rattle.journal_copy.specs.Rest.{IsSomeRest}
use Rattle.journal_copy.specs.declared.rest.Rest.{Rest}
use Rattle.journal_copy.specs.declared.error.LookError.{LookError}
use Rattle.journal_copy.specs.declared.error.LookError.TheVariants as error

-- the layout of a journal with this many tables
abbrev pub layout_by : ℕ → Option ℕ
layout_by n = if n == 5 then Some 1 else if n == 7 then Some 2 else None

module _ {S : Type 0} (g : Ghosts S) where
  -- an opening has made this journal of the connection's tables
  pub record IsOpenedBy (conn : Held S) (j : Kept S) : Type 0 where
    pub fresh : j.failed ≡ false
    pub opened : IsCleanJournal (kept g j) → IsTrue (state g conn).is_open × OpensAs (state g conn).committed.trees (kept g j).tables

  -- Its layout is that of the connection's tables, and it has the view of the tables that an opening makes of them.
  pub record IsFoundBy (conn : Held S) (f : FoundJournal) : Type 0 where
    pub layout : layout_by (length (state g conn).now.schema.tables) ≡ Some f.layout
    pub live : IsLive (state g conn)
    pub last : Kept S
    pub reads : IsCleanJournal (kept g last)
        → IsTrue (state g conn).is_open × ((t : Tables) × OpensAs (state g conn).committed.trees t × IsViewIn t f.view)

  -- The row is the first one at fault, of layout 1 as it stands, or of the tables that an opening makes of the connection's.
  abbrev pub IsFaultBy : Held S → BadRow → Type 0
  IsFaultBy conn bad =
      ((left : Left S) × (doubt_of g left ≡ 0 → IsNaming (state g conn).committed.trees (journal.BadRow bad)))
      ⊎ ((last : Kept S) × (IsCleanJournal (kept g last)
      → (t : Tables) × OpensAs (state g conn).committed.trees t × IsFaultIn t (Some bad)))

-- what is said of a bad row, where the error is one
abbrev pub IfBadRow : (BadRow → Type 0) → LookError → Type 0
IfBadRow P (error.BadRow bad rest) = P bad
IfBadRow P _ = ⊤

-- the error is not one of a bad row
abbrev pub IsOtherFault : LookError → Type 0
IsOtherFault (error.BadRow bad rest) = ⊥
IsOtherFault _ = ⊤

-- what is left of a journal without its bad rows is a journal, where the error has it
abbrev pub IfRest : LookError → Type 0
IfRest (error.BadRow bad rest) = IfSome rest IsSomeRest
IfRest _ = ⊤

-- the error of a journal's refusal; a bad row comes with the rest of the journal, unless memory is refused
abbrev pub IsSpoilt : JournalError → LookError → Type 0
IsSpoilt (journal.BadRow bad) e = (e ≡ error.OutOfMemory) ⊎ ((rest : Option Rest) × (e ≡ error.BadRow bad rest) × IfSome rest IsSomeRest)
IsSpoilt cause e = e ≡ error_of_journal cause
