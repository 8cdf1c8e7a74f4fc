-- What a file without a fault states of its fields: the row of each table's number, and no other row.
use Rattle.std.specs.Prelude.{◌≡◌, ℕ, false, Some, None}
use Rattle.std.specs.List.{AllByRecursion}
use Rattle.iso_dialect.specs.Profiles.{row_of}
use Rattle.toml.specs.Data.{Members}
use Rattle.dialect_toml.specs.Faults.{first_fault, is_taken}
use Rattle.dialect_toml.specs.Rows.{draft_of, page_of, row_in}
use Rattle.dialect_toml.specs.Tables.{fields_of, number_of}

abbrev pub StatesEach : Type 0
StatesEach = (top : Members) → first_fault top ≡ None →
    AllByRecursion (λ ms. row_of (draft_of top).rows (number_of ms) ≡ Some (row_in (page_of top) ms)) (fields_of top)

abbrev pub StatesNoOther : Type 0
StatesNoOther = (top : Members) (n : ℕ) → is_taken (fields_of top) n ≡ false → row_of (draft_of top).rows n ≡ None
