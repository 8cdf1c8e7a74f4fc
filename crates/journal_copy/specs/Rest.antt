-- What a journal holds besides its rows at fault.
use Rattle.std.specs.Prelude.{◌≡◌, ℤ, not, List, [], ◌∷◌, filter, Option, Some, None}
use Rattle.std.specs.Ordering.{int_eq}
use Rattle.sqlite_value.specs.Order.{Row}
use Rattle.tx_history.specs.declared.journal.JournalView.{JournalView}
use Rattle.journal_rows.specs.Faults.{IsFault, number}
use Rattle.journal_rows.specs.Reads.{int_at, read_of}
use Rattle.journal_rows.specs.declared.error.BadRow.{BadRow}
use Rattle.journal_rows.specs.declared.error.JournalTable.{JournalTable}
use Rattle.journal_rows.specs.declared.error.JournalTable.TheVariants.{Advice, Joined, Member, Meta, Part, Shelf, Tx}
use Rattle.journal_rows.specs.declared.layout.Layout.{Layout}
use Rattle.journal_store.specs.declared.reading.Stored.{Stored}
use Rattle.journal_copy.specs.declared.rest.Rest.{Rest}

-- the rows of the tables, each table by its key, members with their names
pub record Rows : Type 0 where
  pub parts : List Row
  pub meta : List Row
  pub tx : List Row
  pub members : List Row
  pub shelf : List Row
  pub advices : List Row

abbrev pub rows_of : Stored → Rows
rows_of s = record {
  parts = s.parts.items;
  meta = s.meta.items;
  tx = s.tx.items;
  members = s.members.items;
  shelf = s.shelf.items;
  advices = s.advices.items;
}

abbrev pub without_id : ℤ → List Row → List Row
without_id id = filter (λ r. not (int_eq (int_at r 0) id))

-- the rows without those of a table that have this id; meta keeps its rows
abbrev pub without_in : JournalTable → ℤ → Rows → Rows
without_in Meta id rows = rows
without_in Part id rows = record rows { parts = without_id id rows.parts }
without_in Tx id rows = record rows { tx = without_id id rows.tx }
without_in Member id rows = record rows { members = without_id id rows.members }
without_in Joined id rows = record rows { members = without_id id rows.members }
without_in Shelf id rows = record rows { shelf = without_id id rows.shelf }
without_in Advice id rows = record rows { advices = without_id id rows.advices }

-- the rows without those of the row at fault
abbrev pub without : BadRow → Rows → Rows
without bad = without_in bad.table bad.id

-- which of these rows is the first one at fault, if one is
abbrev pub IsFaultOf : Layout → Rows → Option BadRow → Type 0
IsFaultOf layout rows = IsFault layout rows.parts rows.meta rows.tx rows.members rows.shelf rows.advices

-- the rows without these, each of which is the first one at fault once those before it are left out
abbrev pub LeavesOut : Layout → Rows → List BadRow → Rows → Type 0
LeavesOut layout rows [] rest = rest ≡ rows
LeavesOut layout rows (bad ∷ more) rest = IsFaultOf layout rows (Some bad) × LeavesOut layout (without bad rows) more rest

-- the journal of the rows that no fault leaves out
pub record IsRest (layout : Layout) (rows : Rows) (rest : Rest) : Type 0 where
  pub numbered : rest.layout ≡ number layout
  pub others : Rows
  pub leaves : LeavesOut layout rows rest.left_out.items others
  pub sound : IsFaultOf layout others None
  pub view : rest.view ≡ read_of others.meta others.tx others.members others.shelf others.advices

-- the rest of some journal
abbrev pub IsSomeRest : Rest → Type 0
IsSomeRest rest = (layout : Layout) × (rows : Rows) × IsRest layout rows rest
