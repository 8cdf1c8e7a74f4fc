-- Rows whose cells fit their fields, as the cells of rows without a fault do.
use Rattle.std.specs.Prelude.{◌≡◌, pos, true, List}
use Rattle.sqlite_value.specs.Order.{Row}
use Rattle.journal_rows.specs.Faults.{are_placed, has_good_cells, is_within}
use Rattle.journal_rows.specs.Reads.{int_at, members_of}

-- a row of tx, and the names of its members
pub record IsReadable (members : List Row) (r : Row) : Type 0 where
  pub cells : has_good_cells r ≡ true
  pub placed : are_placed 0 (members_of (int_at r 0) members) ≡ true

-- a row of the shelf
abbrev pub IsShelfReadable : Row → Type 0
IsShelfReadable r = is_within (int_at r 1) (pos 0) (pos 100) ≡ true
