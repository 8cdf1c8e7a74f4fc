-- What is made of a book by calls that read first: the reversal of a request, and forgetting.
use Rattle.std.specs.Prelude.{ℕ, ℤ, pos, if◌then◌else◌, int_lt, List, Option, None, Some, Result, OnOk}
use Rattle.sqlite.specs.State.{State, HasCleanDisk}
use Rattle.sqlite_catalog.specs.Listing.{IsSound}
use Rattle.sqlite_trees.specs.Tree.{Trees}
use Rattle.store_base.specs.Tables.{Changed, IsCommitted}
use Rattle.book_store.specs.Lines.{Line, marked, without_lines}
use Rattle.book_store.specs.Queries.{first_day, last_id, of_request, open_id}
use Rattle.book_store.specs.Schema.{book_schema}
use Rattle.book_store.specs.Steps.{Edits}

abbrev pub marked_if : Option ℤ → List Line → List Line
marked_if None lines = lines
marked_if (Some id) lines = marked id lines

-- the item of a request was marked as reversed: the last one that has it, if it was not reversed before
abbrev pub reversed : List ℕ → List Line → List Line
reversed request lines = marked_if (open_id (of_request request lines)) lines

abbrev pub without_if : ℤ → Option ℤ → List Line → List Line
without_if day None lines = lines
without_if day (Some last) lines = without_lines day last lines

abbrev pub forgotten_of : ℤ → ℤ → Option ℤ → List Line → List Line
forgotten_of before most None lines = lines
forgotten_of before most (Some day) lines = if int_lt day before then without_if day (last_id day most lines) lines else lines

-- at most so many items were forgotten: the first ones, by id, of the oldest day, if this is before the given one
abbrev pub forgotten : ℤ → ℤ → List Line → List Line
forgotten before most lines = forgotten_of before most (first_day (pos 0) lines) lines

-- what a call that reads first promises of a book, if the disk returns what was written
abbrev pub Alters : {A E : Type 0} → (List Line → List Line) → State → State → Result A E → Type 0
Alters change old new result = HasCleanDisk new → IsCommitted book_schema old → OnOk result (Changed book_schema (Edits change) old new)

-- what a stop or a fault inside it may leave, besides what it might leave before
abbrev pub LeavesAltered : (List Line → List Line) → State → Trees → Type 0
LeavesAltered change old trees = IsCommitted book_schema old → IsSound book_schema trees × Edits change old.now.trees trees
