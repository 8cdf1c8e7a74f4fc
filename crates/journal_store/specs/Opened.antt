-- The view that a database has in either layout, and what an opening makes of it.
use Rattle.std.specs.Prelude.{◌≡◌, ◌⊎◌, [], None}
use Rattle.sqlite.specs.Effect.{Database}
use Rattle.sqlite_catalog.specs.Listing.{IsSound}
use Rattle.sqlite_trees.specs.Tree.{Trees}
use Rattle.tx_history.specs.declared.journal.JournalView.{JournalView}
use Rattle.journal_rows.specs.Faults.{IsFaultAs, IsViewIn}
use Rattle.journal_rows.specs.Reads.{read}
use Rattle.journal_rows.specs.Tables.{Tables, first_tables_of, tables_of}
use Rattle.journal_rows.specs.declared.layout.Layout.TheVariants.{First}
use Rattle.journal_tables.specs.Steps.{IsJournal}
use Rattle.journal_tables.specs.Converting.{IsFirst}
use Rattle.journal_store.specs.Kept.{JournalState, left_by}
use Rattle.journal_store.specs.Making.{no_schema}

-- nothing was taken yet
abbrev pub blank_view : JournalView
blank_view = record { next_id = 1; rows = []; shelf = []; advices = [] }

-- a database that an opening takes has this view: a journal of layout 2 or 1 in which no row is at fault, or an empty database
abbrev pub IsViewOf : Database → JournalView → Type 0
IsViewOf db v =
    (IsJournal db × IsViewIn (tables_of db.trees) v)
    ⊎ ((IsFirst db × IsFaultAs First (first_tables_of db.trees) None × (read (first_tables_of db.trees) ≡ v))
    ⊎ (IsSound no_schema db.trees × (v ≡ blank_view)))

-- the journal's tables have the view, and so has whatever a stop leaves of them
abbrev pub HasView : JournalState → JournalView → Type 0
HasView j v = IsViewIn j.tables v × ((t : Tables) → j.may_leave t → IsViewIn t v)

-- the view that a database had is that of the journal that was opened on it
abbrev pub KeepsView : Trees → JournalState → Type 0
KeepsView was j = (db : Database) (v : JournalView) → db.trees ≡ was → IsViewOf db v → HasView j v

-- the view that a database had is what a later opening finds of what is left
abbrev pub LeavesView : Trees → (Trees → Type 0) → Type 0
LeavesView was leaves = (db : Database) (v : JournalView) → db.trees ≡ was → IsViewOf db v → (t : Tables) → left_by leaves t → IsViewIn t v
