-- The items of a book as its file has them, and what is made of them.
use Rattle.std.specs.Prelude.{ℕ, ℤ, pos, Bool, not, ◌&&◌, if◌then◌else◌, int_lt, int_le, List, [], ◌∷◌, ◌++◌, map, filter}
use Rattle.std.specs.List.{list_any}
use Rattle.std.specs.Ordering.{int_eq}
use Rattle.sqlite_rules.specs.Edit.{id_in}
use Rattle.sqlite_trees.specs.Tree.{Trees}
use Rattle.sqlite_value.specs.Order.{Row, bytes, column}
use Rattle.sqlite.specs.declared.types.Value.TheVariants.{Null, Int, Blob}

-- An item as the file has it. The columns may hold any number and any bytes; those that no book writes are at fault when they are read.
pub record Line : Type 0 where
  pub id : ℤ
  pub card : List ℕ
  pub request : List ℕ
  pub amount : ℤ
  -- days since 1970-01-01
  pub day : ℤ
  -- 1 if it was reversed, and 0 if not
  pub reversed : ℤ

-- the row of `item` that has it; the column of the rowid's name holds NULL
abbrev pub row_of : Line → Row
row_of l = Int l.id ∷ Null ∷ Blob l.card ∷ Blob l.request ∷ Int l.amount ∷ Int l.day ∷ Int l.reversed ∷ []

abbrev pub line_of : Row → Line
line_of r = record {
  id = id_in (column r 0);
  card = bytes (column r 2);
  request = bytes (column r 3);
  amount = id_in (column r 4);
  day = id_in (column r 5);
  reversed = id_in (column r 6);
}

-- the items of a database, by id rising
abbrev pub lines_of : Trees → List Line
lines_of trees = map line_of (trees 1)

abbrev pub has_id : ℤ → Line → Bool
has_id id l = int_eq l.id id

-- an item was put, unless one of its id is there
abbrev pub with_line : Line → List Line → List Line
with_line new lines =
    if list_any (has_id new.id) lines then lines else filter (λ l. int_lt l.id new.id) lines ++ new ∷ filter (λ l. int_lt new.id l.id) lines

-- the item of this id was marked as reversed
abbrev pub marked : ℤ → List Line → List Line
marked id = map (λ l. if has_id id l then record l { reversed = pos 1 } else l)

-- an item of this day, with this id or a lower one
abbrev pub is_gone : ℤ → ℤ → Line → Bool
is_gone day last l = int_eq l.day day && int_le l.id last

-- those items of the day were dropped
abbrev pub without_lines : ℤ → ℤ → List Line → List Line
without_lines day last = filter (λ l. not (is_gone day last l))
