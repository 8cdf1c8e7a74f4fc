-- The journal that the bytes of a database file and of its log hold.
use Rattle.std.specs.Prelude.{◌≡◌, ◌⊎◌, ℕ, List, Some}
use Rattle.sqlite_wal.specs.Recovery.{Image}
use Rattle.sqlite_trees.specs.Tree.{Trees}
use Rattle.sqlite_catalog.specs.Listing.{IsSound}
use Rattle.sqlite.specs.Files.{AreFoundIn}
use Rattle.tx_history.specs.declared.journal.JournalView.{JournalView}
use Rattle.journal_rows.specs.Tables.{Tables, first_tables_of}
use Rattle.journal_rows.specs.Faults.{IsFaultAs, IsFaultIn, IsViewIn}
use Rattle.journal_rows.specs.declared.error.BadRow.{BadRow}
use Rattle.journal_rows.specs.declared.layout.Layout.TheVariants.{First}
use Rattle.journal_tables.specs.Schema.{first_schema, journal_schema}
use Rattle.journal_store.specs.Kept.{OpensAs}

abbrev pub image_of : List ℕ → List ℕ → Image
image_of db log = record { log = log; db = db }

-- the database has the tables of this layout
abbrev pub IsLayoutOf : Trees → ℕ → Type 0
IsLayoutOf db layout = (IsSound journal_schema db × (layout ≡ 2)) ⊎ (IsSound first_schema db × (layout ≡ 1))

-- The files recover to a database in this layout, and an opening of it as a journal has this view.
pub record HoldsJournal (files : Image) (its_layout : ℕ) (view : JournalView) : Type 0 where
  pub db : Trees
  pub found : AreFoundIn files db
  pub layout : IsLayoutOf db its_layout
  pub tables : Tables
  pub opened : OpensAs db tables
  pub reads : IsViewIn tables view

-- the first row at fault, of layout 1 as it stands, or of the tables that an opening makes
abbrev pub IsFaultOf : Trees → BadRow → Type 0
IsFaultOf db bad =
    (IsSound first_schema db × IsFaultAs First (first_tables_of db) (Some bad))
    ⊎ ((t : Tables) × OpensAs db t × IsFaultIn t (Some bad))

-- the files recover to a database of which this row is the first one at fault
abbrev pub HoldsFault : Image → BadRow → Type 0
HoldsFault files bad = (db : Trees) × AreFoundIn files db × IsFaultOf db bad
