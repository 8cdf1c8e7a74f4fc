-- The journal that a run finds.
use Rattle.std.specs.Prelude.{◌≡◌, ◌≢◌, ◌≤◌, ℕ, false, List, Option, Some, None, codes, IsTrue}
use Rattle.sqlite_trees.specs.declared.store.Store.{Ghosts}
use Rattle.sqlite_trees.specs.declared.memory.MemStore.{MemStore}
use Rattle.sqlite_trees.specs.View.{doubt}
use Rattle.sqlite.specs.Held.{Held, IsNew, state}
use Rattle.sqlite.specs.State.{HasCleanDisk, IsLive, Opens}
use Rattle.sqlite.specs.Steps.{over_memory}
use Rattle.journal_store.specs.Kept.{IsCleanJournal, Kept, OpensAs, kept}
use Rattle.journal_store.specs.Opened.{HasView, KeepsView, blank_view}
use Rattle.tx_plant.specs.Plant.{Seen, seen}

module _ {S : Type 0} (g : Ghosts S) where
  -- What an opening made of a connection: its tables are those of the connection's database, and have the view that the
  -- database had.
  pub record IsOpenedOf (conn : Held S) (j : Kept S) : Type 0 where
    pub fresh : j.failed ≡ false
    pub clean : doubt (state g conn).is_clean ≤ doubt (kept g j).is_clean
    pub opened : IsCleanJournal (kept g j) → IsTrue (state g conn).is_open × OpensAs (state g conn).committed.trees (kept g j).tables
    pub view : IsCleanJournal (kept g j) → KeepsView (state g conn).committed.trees (kept g j)

  -- The journal of the file at a path, which a new connection opened; `g` is the store over files. No file has the path
  -- `:memory:`.
  pub record IsOfFile (path : List ℕ) (j : Kept S) : Type 0 where
    pub is_file : path ≢ codes ":memory:"
    pub conn : Held S
    pub is_new : IsNew conn
    pub found : HasCleanDisk (state g conn) → Opens (state g conn) × IsLive (state g conn)
    pub opened : IsOpenedOf conn j

-- a new journal in memory: no transaction was taken yet
pub record IsNewJournal (j : Kept MemStore) : Type 0 where
  pub fresh : j.failed ≡ false
  pub clean : IsCleanJournal (kept over_memory j)
  pub blank : HasView (kept over_memory j) blank_view

-- the journal of the file at a path, as a plant finds it
abbrev pub IsFoundAt : {S : Type 0} → Ghosts S → List ℕ → Seen → Type 0
IsFoundAt {S} files path found = (j : Kept S) × IsOfFile files path j × (found ≡ seen (kept files j))

-- the journal of the file at a path, or without one a new one in memory
abbrev pub IsFound : {S : Type 0} → Ghosts S → Option (List ℕ) → Seen → Type 0
IsFound files None found = (j : Kept MemStore) × IsNewJournal j × (found ≡ seen (kept over_memory j))
IsFound files (Some path) found = IsFoundAt files path found
