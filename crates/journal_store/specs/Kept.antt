-- What a journal is to the crates above.
use Rattle.std.specs.Prelude.{◌≡◌, ◌⊎◌, ℕ, List, Bool, false, IsTrue, Option, None, refl}
use Rattle.std.specs.Coded.{Coded, code_by, coded×, coded_bool}
use Rattle.sqlite_trees.specs.declared.store.Store.{Ghosts}
use Rattle.sqlite_trees.specs.Tree.{Trees}
use Rattle.sqlite_trees.specs.View.{doubt}
use Rattle.sqlite.specs.Held.{Held, held_code}
use Rattle.sqlite.specs.State.{State, HasCleanDisk}
use Rattle.sqlite_catalog.specs.Listing.{IsSound}
use Rattle.journal_tables.specs.Schema.{first_schema, journal_schema}
use Rattle.journal_rows.specs.Tables.{Tables, first_tables_of, tables_of}
use Rattle.journal_rows.specs.Convert.{converted}
use Rattle.journal_rows.specs.Faults.{IsFaultAs}
use Rattle.journal_rows.specs.declared.layout.Layout.TheVariants.{First}
use Rattle.journal_tables.specs.Parts.{AreParts}
use Rattle.journal_tables.specs.declared.last_put.LastPut.{LastPut}
use Rattle.journal_tables.specs.LastPut.{IsKnown}
use Rattle.journal_tables.specs.Steps.{IsJournal}
use Rattle.journal_store.specs.Making.{no_schema, new_tables}

-- an open journal: its connection, and whether each call answers Failed
pub record Kept (S : Type 0) : Type 0 where
  pub held : Held S
  pub failed : Bool

abbrev pub kept_code : {S : Type 0} → Coded S → Coded (Kept S)
kept_code {S} store = code_by (Held S × Bool) (coded× (held_code store) coded_bool) (λ k. (k.held, k.failed)) (λ p. record { held = p.0; failed = p.1 })
    (λ _. refl)

-- the store is open, with the journal's schema, and all is committed
pub record IsCommitted (s : State) : Type 0 where
  pub is_open : IsTrue s.is_open
  pub now : IsJournal s.now
  pub committed : s.committed ≡ s.now

-- between two calls: the row that is known is there, and the parts are known where the table has them in order
pub record IsKept (s : State) (failed : Bool) (known : Option LastPut) (knows : Bool) (parts : List (List ℕ)) : Type 0 where
  pub autocommit : s.in_transaction ≡ false
  pub ready : failed ≡ false → HasCleanDisk s → IsCommitted s
  pub stands : failed ≡ false → HasCleanDisk s → IsKnown known (tables_of s.now.trees)
  pub named : failed ≡ false → HasCleanDisk s → IsTrue knows → AreParts parts (tables_of s.now.trees).part

-- what contracts see of a journal
pub record JournalState : Type 1 where
  pub tables : Tables
  -- each call answers Failed
  pub failed : Bool
  -- so far the disk has returned what was written
  pub is_clean : Bool
  -- what an open after a stop at this moment may find
  pub may_leave : Tables → Type 0

-- what an open makes of the last commit: a journal is kept, one of layout 1 in which no row is at fault is converted, and an empty
-- database gets the tables
abbrev pub OpensAs : Trees → Tables → Type 0
OpensAs db t =
    (IsSound journal_schema db × (t ≡ tables_of db))
    ⊎ ((IsSound first_schema db × IsFaultAs First (first_tables_of db) None × (t ≡ converted (first_tables_of db)))
    ⊎ (IsSound no_schema db × (t ≡ new_tables)))

-- what an open may find after a stop, by what the store recovers
abbrev pub left_by : (Trees → Type 0) → Tables → Type 0
left_by recovers t = (db : Trees) × recovers db × OpensAs db t

-- what contracts see of this journal
abbrev pub kept : {S : Type 0} → Ghosts S → Kept S → JournalState
kept g j = record {
  tables = tables_of (g.view j.held.store).trees;
  failed = j.failed;
  is_clean = (g.view j.held.store).is_clean;
  may_leave = left_by (g.recovers j.held.store);
}

-- so far the disk has returned what was written
abbrev pub IsCleanJournal : JournalState → Type 0
IsCleanJournal j = doubt j.is_clean ≡ 0
