-- An item and its cells, as the file has them.
use Rattle.std.specs.Prelude.{◌≡◌, pos, ◌<◌, if◌then◌else◌, length}
use Rattle.sqlite.specs.declared.types.Value.TheVariants.{Int, Blob}
use Rattle.sqlite_rules.specs.Edit.{id_in}
use Rattle.sqlite_value.specs.Order.{Row, column}
use Rattle.book_store.specs.declared.error.BookFileError.{BookFileError}
use Rattle.book_store.specs.declared.error.BookFileError.TheVariants.{BadRow}
use Rattle.book_store.specs.Lines.{Line}
use Rattle.book_store.specs.declared.item.Item.{Item}
use Rattle.book_store.specs.declared.item.ItemCells.{ItemCells}

-- a cell holds numbers below 2^63
pub record IsSmall (i : Item) : Type 0 where
  pub id : i.id < 9223372036854775808
  pub amount : i.amount < 9223372036854775808

abbrev pub line_in : ItemCells → Line
line_in c = record { id = c.id; card = c.card.now; request = c.request.now; amount = c.amount; day = c.day; reversed = c.reversed }

abbrev pub line_for : Item → Line
line_for i = record {
  id = pos i.id;
  card = i.card.bytes;
  request = i.request.bytes;
  amount = pos i.amount;
  day = pos i.day;
  reversed = if i.reversed then pos 1 else pos 0;
}

-- an item that a book can have
pub record IsFit (i : Item) : Type 0 where
  pub card : length i.card.bytes ≡ 32
  pub request : length i.request.bytes ≡ 32
  pub day : i.day < 4294967296

-- a row of the query of the next items shows the item
pub record IsShown (r : Row) (i : Item) : Type 0 where
  pub id : column r 0 ≡ Int (pos i.id)
  pub card : column r 1 ≡ Blob i.card.bytes
  pub request : column r 2 ≡ Blob i.request.bytes
  pub amount : column r 3 ≡ Int (pos i.amount)
  pub day : column r 4 ≡ Int (pos i.day)
  pub reversed : column r 5 ≡ Int (if i.reversed then pos 1 else pos 0)

-- the refusal names the row, which shows no item that a book can have
abbrev pub IsBad : Row → BookFileError → Type 0
IsBad r (BadRow id) = (id ≡ id_in (column r 0)) × ((i : Item) → IsFit i → IsShown r i → ⊥)
IsBad r _ = ⊥
