-- How the items in memory and those of the file agree.
--
-- - *In reach*: of the first day that still counts, or of a later one.
-- - *Tied*: the lines of the file that are in reach are those of the items in reach that are not open.
use Rattle.std.specs.Prelude.{◌≡◌, ◌<◌, ℕ, ℤ, pos, negsuc, Bool, false, true, not, ◌&&◌, if◌then◌else◌, nat_le, int_le, int_lt, List, [], ◌∷◌, filter, refl}
use Rattle.std.specs.Coded.{Coded, code_by, coded×, coded_bool, coded_ℕ}
use Rattle.day_book.specs.declared.item.DayItem.{DayItem}
use Rattle.day_book.specs.declared.item.State.{State}
use Rattle.day_book.specs.declared.item.State.TheVariants.{Used, Reversed}
use Rattle.day_book.specs.Items.{Items, PlainDays, is_open}
use Rattle.book_store.specs.Kept.{BookState, IsCleanBook, Kept, kept_code}
use Rattle.book_store.specs.Lines.{Line}
use Rattle.book_store.specs.declared.item.Item.{Item}
use Rattle.lasting_book.specs.Shown.{days_code}

-- a book: its items, its file, the first day in reach, and whether the file has an item that memory did not take
pub record Lasting (S : Type 0) : Type 0 where
  pub days : PlainDays
  pub file : Kept S
  pub reach : ℕ
  pub failed : Bool

abbrev pub lasting_code : {S : Type 0} → Coded S → Coded (Lasting S)
lasting_code {S} store = code_by (PlainDays × (Kept S × (ℕ × Bool)))
    (coded× days_code (coded× (kept_code store) (coded× coded_ℕ coded_bool)))
    (λ b. (b.days, (b.file, (b.reach, b.failed))))
    (λ p. record { days = p.0; file = p.1.0; reach = p.1.1.0; failed = p.1.1.1 }) (λ _. refl)

abbrev pub mark_of : State → ℤ
mark_of Reversed = pos 1
mark_of _ = pos 0

-- an item as the file has it
abbrev pub line_at : ℕ × DayItem → Line
line_at e = record {
  id = pos e.0;
  card = e.1.card;
  request = e.1.request;
  amount = pos e.1.amount;
  day = pos e.1.day;
  reversed = mark_of e.1.state;
}

-- an item that the file has too, if it is in reach: one that is not open
abbrev pub is_kept : ℕ → DayItem → Bool
is_kept reach item = not (is_open item.state) && nat_le reach item.day

-- the lines of the items in reach that are not open
abbrev pub lines_in : ℕ → Items → List Line
lines_in reach [] = []
lines_in reach (e ∷ es) =
    if is_kept reach e.1 then line_at e ∷ lines_in reach es else lines_in reach es

-- a line that is in reach; no book has one with an id below 0
abbrev pub reaches : ℕ → Line → Bool
reaches reach l = int_lt (negsuc 0) l.id && int_le (pos reach) l.day

abbrev pub in_reach : ℕ → List Line → List Line
in_reach reach = filter (reaches reach)

-- memory and file agree, if neither has failed and the disk has returned what was written
abbrev pub Tied : Bool → BookState → ℕ → Items → Type 0
Tied failed file reach items =
    failed ≡ false → file.failed ≡ false → IsCleanBook file → in_reach reach file.tables.lines ≡ lines_in reach items

-- each id is below this one
abbrev pub AreBelow : ℕ → Items → Type 0
AreBelow next [] = Unit {0}
AreBelow next (e ∷ es) = (e.0 < next) × AreBelow next es

-- each item is one that the file has too, and in reach
abbrev pub AreKept : ℕ → Items → Type 0
AreKept reach [] = Unit {0}
AreKept reach (e ∷ es) = (is_kept reach e.1 ≡ true) × AreKept reach es

-- an item of the file as memory has it
abbrev pub day_item : Item → DayItem
day_item i = record {
  card = i.card.bytes;
  request = i.request.bytes;
  amount = i.amount;
  day = i.day;
  state = if i.reversed then Reversed else Used;
}
