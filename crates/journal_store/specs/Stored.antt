-- What is read of the tables, in either layout.
use Rattle.std.specs.Prelude.{◌≡◌, ◌⊎◌, List, map, Vec, Result, IfOk, OnOk}
use Rattle.std.specs.declared.alloc.Global.{Global}
use Rattle.sqlite.specs.Effect.{Database}
use Rattle.sqlite.specs.State.{State, HasCleanDisk, Survives, IsUnchanged}
use Rattle.sqlite_trees.specs.Tree.{Trees}
use Rattle.sqlite_value.specs.Order.{Row}
use Rattle.journal_rows.specs.Tables.{Tables}
use Rattle.journal_rows.specs.Reads.{shown_meta, shown_part, shown_tx, shown_shelf, members_in, advices_in}
use Rattle.journal_tables.specs.Steps.{IsJournal}
use Rattle.journal_tables.specs.Converting.{IsFirst}
use Rattle.journal_store.specs.declared.reading.Stored.{Stored}

-- a journal in layout 1 or 2
abbrev pub IsEither : Database → Type 0
IsEither db = IsFirst db ⊎ IsJournal db

-- what was read are the rows of these tables, as the queries show them
pub record Holds (t : Tables) (s : Stored) : Type 0 where
  pub parts : s.parts.items ≡ map shown_part t.part
  pub meta : s.meta.items ≡ map shown_meta t.meta
  pub tx : s.tx.items ≡ map shown_tx t.tx
  pub members : s.members.items ≡ members_in t
  pub shelf : s.shelf.items ≡ map shown_shelf t.shelf
  pub advices : s.advices.items ≡ advices_in t

-- what a query promises of such a database, if the disk returns what was written: it gives these rows and changes nothing
abbrev pub ShowsRows : {E : Type 0} → (Database → Type 0) → (Trees → List Row) → State → State → Result (Vec Row Global) E → Type 0
ShowsRows In rows old new result = HasCleanDisk new → In old.now → IfOk result (λ shown. shown.items ≡ rows old.now.trees)

-- the same of all queries together
abbrev pub ShowsAll : {E : Type 0} → (Database → Type 0) → (Trees → Tables) → State → State → Result Stored E → Type 0
ShowsAll In tables old new result = HasCleanDisk new → In old.now → IfOk result (Holds (tables old.now.trees))

-- what reading promises of such a database: it changes nothing
abbrev pub ChangesNothing : {A E : Type 0} → (Database → Type 0) → State → State → Result A E → Type 0
ChangesNothing In old new result = HasCleanDisk new → In old.now → OnOk result (IsUnchanged old new)

-- a stop during it leaves of such a database what it left before
abbrev pub OnlyReads : (Database → Type 0) → State → State → Type 0
OnlyReads In old new = Survives old new (λ _. In old.now → ⊥)
