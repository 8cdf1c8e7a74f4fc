-- What the keeper of the journal did.
use Rattle.std.specs.Prelude.{◌≡◌, ◌⊎◌, ◌≤◌, false, List, [], ◌++◌}
use Rattle.sqlite_trees.specs.View.{doubt}
use Rattle.journal_rows.specs.Tables.{Tables, all_made}
use Rattle.journal_rows.specs.Law.{changes_of}
use Rattle.tx_history.specs.declared.event.Entry.{Entry}
use Rattle.journal_store.specs.Kept.{IsCleanJournal, JournalState}
use Rattle.tx_plant.specs.Plant.{seen}

-- what a stop may leave of the second, it may leave of the first
abbrev pub LeavesLess : JournalState → JournalState → Type 0
LeavesLess j k = (t : Tables) → k.may_leave t → j.may_leave t

-- a stop leaves the tables as they are
abbrev pub LeavesThese : JournalState → Type 0
LeavesThese k = (t : Tables) → k.may_leave t → t ≡ k.tables

-- a stop leaves the tables of the first with these entries, and perhaps with more
abbrev pub LeavesWith : JournalState → List Entry → JournalState → Type 0
LeavesWith j es k = (t : Tables) → k.may_leave t → (more : List Entry) × (t ≡ all_made (changes_of (es ++ more)) j.tables)

-- a write of these entries that was refused: nothing was done, or a stop leaves them all or none
abbrev pub MayHaveWritten : JournalState → List Entry → JournalState → Type 0
MayHaveWritten j b k = (seen k ≡ seen j) × ((t : Tables) → k.may_leave t → j.may_leave t) ⊎ (doubt j.is_clean ≤ doubt k.is_clean)
    × (IsCleanJournal k → j.failed ≡ false → (t : Tables) → k.may_leave t → (t ≡ j.tables) ⊎ (t ≡ all_made (changes_of b) j.tables))

-- These entries were written, in one write or more. A stop then leaves the tables with them all; where none was written, what
-- it left before.
pub record Wrote (j : JournalState) (es : List Entry) (k : JournalState) : Type 0 where
  pub clean : doubt j.is_clean ≤ doubt k.is_clean
  pub fresh : k.failed ≡ false → j.failed ≡ false
  pub none : es ≡ [] → seen k ≡ seen j
  pub tables : IsCleanJournal k → k.failed ≡ false → k.tables ≡ all_made (changes_of es) j.tables
  pub left : ((es ≡ []) × LeavesLess j k) ⊎ ((k.failed ≡ false) × (IsCleanJournal k → LeavesThese k))
