-- What the queries show of a book.
use Rattle.std.specs.Prelude.{◌≡◌, ℕ, ◌-◌, ℤ, pos, Bool, ◌&&◌, if◌then◌else◌, int_lt, int_le, List, [], ◌∷◌, filter, length, slice_get}
use Rattle.std.specs.Prelude.{Option, None, Some, option_map, option_and_then, Result, Vec, IfOk, OnOk}
use Rattle.std.specs.Ordering.{int_eq, int_cmp, ordering_then}
use Rattle.std.specs.declared.alloc.Global.{Global}
use Rattle.std.specs.declared.cmp.Ordering.{Ordering}
use Rattle.sqlite.specs.State.{State, HasCleanDisk, IsUnchanged}
use Rattle.sqlite.specs.declared.types.Value.TheVariants.{Int, Blob}
use Rattle.sqlite_keyed.specs.Lists.{sort_by, sum_of}
use Rattle.sqlite_sql.specs.Query.{as_count, limited}
use Rattle.sqlite_trees.specs.Tree.{Trees}
use Rattle.sqlite_typed.specs.Tests.{bytes_eq}
use Rattle.sqlite_value.specs.Order.{Row, column}
use Rattle.book_store.specs.Lines.{Line, lines_of}
use Rattle.book_store.specs.Steps.{IsBook, salt_row}

-- what a query promises of a book, if the disk returns what was written: it gives these rows
abbrev pub ShowsRows : {E : Type 0} → (Trees → List Row) → State → State → Result (Vec Row Global) E → Type 0
ShowsRows rows old new result = HasCleanDisk new → IsBook old.now → IfOk result (λ shown. shown.items ≡ rows old.now.trees)

-- and it changes nothing
abbrev pub ChangesNothing : {A E : Type 0} → State → State → Result A E → Type 0
ChangesNothing old new result = HasCleanDisk new → IsBook old.now → OnOk result (IsUnchanged old new)

abbrev pub shown_salt : Row → Row
shown_salt r = column r 0 ∷ column r 2 ∷ []

-- the table `salt` has one row, with a salt of 32 bytes
pub record IsSalted (rows : List Row) : Type 0 where
  pub bytes : List ℕ
  pub long : length bytes ≡ 32
  pub row : rows ≡ salt_row bytes ∷ []

-- what was read of it
abbrev pub IsSaltOf : List Row → Option (List ℕ) → Type 0
IsSaltOf rows (Some bytes) = rows ≡ salt_row bytes ∷ []
IsSaltOf rows None = IsSalted rows → ⊥

-- the same of the rows that the query shows
abbrev pub IsSaltShown : List Row → Option (List ℕ) → Type 0
IsSaltShown rows (Some bytes) = rows ≡ (Int (pos 1) ∷ Blob bytes ∷ []) ∷ []
IsSaltShown rows None = (bytes : List ℕ) → length bytes ≡ 32 → rows ≡ (Int (pos 1) ∷ Blob bytes ∷ []) ∷ [] → ⊥

-- what reading it promises of a book, if the disk returns what was written
abbrev pub IsKnownSalt : {E : Type 0} → State → State → Result (Option (List ℕ)) E → Type 0
IsKnownSalt old new result = HasCleanDisk new → IsBook old.now → IfOk result (IsSaltOf (old.now.trees 0))

-- an item as the query of the next items shows it
abbrev pub shown_line : Line → Row
shown_line l = Int l.id ∷ Blob l.card ∷ Blob l.request ∷ Int l.amount ∷ Int l.day ∷ Int l.reversed ∷ []

-- the first elements: at most so many, and all for a number below 0
abbrev pub firsts : {A : Type 0} → ℤ → List A → List A
firsts most = limited (as_count (Int most))

-- the first items after an id, of days from one on: at most so many
abbrev pub next_lines : ℤ → ℤ → ℤ → List Line → List Line
next_lines after day most lines = firsts most (filter (λ l. int_lt after l.id && int_le day l.day) lines)

-- the last element
abbrev pub last_of : {A : Type 0} → List A → Option A
last_of xs = slice_get xs (length xs - 1)

-- an item as the query of a request shows it
abbrev pub shown_mark : Line → Row
shown_mark l = Int l.id ∷ Int l.reversed ∷ []

-- the items of a request
abbrev pub of_request : List ℕ → List Line → List Line
of_request request = filter (λ l. bytes_eq l.request request)

-- the id of the last of these items, if it was not reversed
abbrev pub open_id : List Line → Option ℤ
open_id lines = option_and_then (λ (l : Line). if int_eq l.reversed (pos 0) then Some l.id else None) (last_of lines)

-- by day, and then by id
abbrev pub day_cmp : Line → Line → Ordering
day_cmp a b = ordering_then (int_cmp a.day b.day) (int_cmp a.id b.id)

-- the items of days from one on, by day
abbrev pub days_from : ℤ → List Line → List Line
days_from from lines = sort_by day_cmp (filter (λ (l : Line). int_le from l.day) lines)

abbrev pub shown_day : Line → Row
shown_day l = Int l.day ∷ []

-- the first of the days from one on that items have
abbrev pub first_day : ℤ → List Line → Option ℤ
first_day from lines = option_map (λ (l : Line). l.day) (slice_get (days_from from lines) 0)

-- the items of a day
abbrev pub of_day : ℤ → List Line → List Line
of_day day = filter (λ (l : Line). int_eq l.day day)

abbrev pub shown_id : Line → Row
shown_id l = Int l.id ∷ []

-- the last id among the first items of a day
abbrev pub last_id : ℤ → ℤ → List Line → Option ℤ
last_id day most lines = option_map (λ (l : Line). l.id) (last_of (firsts most (of_day day lines)))

-- an item of this card and this day that was not reversed
abbrev pub counts : List ℕ → ℤ → Line → Bool
counts card day l = bytes_eq l.card card && (int_eq l.day day && int_eq l.reversed (pos 0))

-- an item of this day that was not reversed
abbrev pub counts_in : ℤ → Line → Bool
counts_in day l = int_eq l.day day && int_eq l.reversed (pos 0)

-- what a card has used in a day: the sum of the amounts of its items of that day that were not reversed
abbrev pub used : List ℕ → ℤ → List Line → ℤ
used card day lines = sum_of (λ (l : Line). l.amount) (filter (counts card day) lines)

-- what all cards together have used in a day
abbrev pub used_in : ℤ → List Line → ℤ
used_in day lines = sum_of (λ (l : Line). l.amount) (filter (counts_in day) lines)

-- what a look at the items promises of a book, if the disk returns what was written
abbrev pub Finds : {A E : Type 0} → (List Line → A) → State → State → Result A E → Type 0
Finds find old new result = HasCleanDisk new → IsBook old.now → IfOk result (λ a. a ≡ find (lines_of old.now.trees))
