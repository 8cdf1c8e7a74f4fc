-- What a book's file is to the crates above.
use Rattle.std.specs.Prelude.{◌≡◌, ◌⊎◌, ℕ, List, [], ◌∷◌, Bool, false, refl}
use Rattle.std.specs.Coded.{Coded, code_by, coded×, coded_bool, coded_list, coded_ℕ}
use Rattle.sqlite_trees.specs.declared.store.Store.{Ghosts}
use Rattle.sqlite_trees.specs.Tree.{Trees}
use Rattle.sqlite_trees.specs.View.{doubt}
use Rattle.sqlite.specs.Held.{Held, held_code}
use Rattle.sqlite.specs.State.{State, HasCleanDisk}
use Rattle.sqlite_catalog.specs.Listing.{IsSound}
use Rattle.sqlite_value.specs.Order.{Row}
use Rattle.store_base.specs.Making.{no_schema}
use Rattle.store_base.specs.Tables.{IsCommitted}
use Rattle.book_store.specs.Lines.{Line, lines_of}
use Rattle.book_store.specs.Schema.{book_schema}
use Rattle.book_store.specs.Steps.{salt_row}

-- a book's file: its connection, whether each call answers Failed, and the salt
pub record Kept (S : Type 0) : Type 0 where
  pub held : Held S
  pub failed : Bool
  pub salt : List ℕ

abbrev pub kept_code : {S : Type 0} → Coded S → Coded (Kept S)
kept_code {S} store = code_by (Held S × (Bool × List ℕ)) (coded× (held_code store) (coded× coded_bool (coded_list coded_ℕ))) (λ k. (k.held, (k.failed, k.salt)))
    (λ p. record { held = p.0; failed = p.1.0; salt = p.1.1 }) (λ _. refl)

-- the tables of a book: the rows of its salt, and its items by id rising
pub record Tables : Type 0 where
  pub salt : List Row
  pub lines : List Line

abbrev pub tables_of : Trees → Tables
tables_of db = record { salt = db 0; lines = lines_of db }

-- a new book with this salt
abbrev pub new_tables : List ℕ → Tables
new_tables salt = record { salt = salt_row salt ∷ []; lines = [] }

-- the items of it were changed
abbrev pub changed : (List Line → List Line) → Tables → Tables
changed change t = record t { lines = change t.lines }

-- between two calls
pub record IsKept (s : State) (failed : Bool) (salt : List ℕ) : Type 0 where
  pub autocommit : s.in_transaction ≡ false
  pub ready : failed ≡ false → HasCleanDisk s → IsCommitted book_schema s
  pub salted : failed ≡ false → HasCleanDisk s → s.now.trees 0 ≡ salt_row salt ∷ []

-- what contracts see of a book's file
pub record BookState : Type 1 where
  pub tables : Tables
  -- each call answers Failed
  pub failed : Bool
  -- so far the disk has returned what was written
  pub is_clean : Bool
  -- what an open with this salt may find after a stop at this moment
  pub may_leave : List ℕ → Tables → Type 0

-- what an open with this salt makes of the last commit: a book is taken as it is, and an empty database gets the tables
abbrev pub OpensAs : List ℕ → Trees → Tables → Type 0
OpensAs salt db t = (IsSound book_schema db × (t ≡ tables_of db)) ⊎ (IsSound no_schema db × (t ≡ new_tables salt))

-- what an open may find after a stop, by what the store recovers
abbrev pub left_by : (Trees → Type 0) → List ℕ → Tables → Type 0
left_by recovers salt t = (db : Trees) × recovers db × OpensAs salt db t

-- what contracts see of this file
abbrev pub book : {S : Type 0} → Ghosts S → Kept S → BookState
book g k = record {
  tables = tables_of (g.view k.held.store).trees;
  failed = k.failed;
  is_clean = (g.view k.held.store).is_clean;
  may_leave = left_by (g.recovers k.held.store);
}

-- so far the disk has returned what was written
abbrev pub IsCleanBook : BookState → Type 0
IsCleanBook b = doubt b.is_clean ≡ 0
