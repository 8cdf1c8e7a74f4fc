-- A book of days: what the cards have spent on each day, and what is held for open transactions.
--
-- - *Used, reserved*: the sums over the used and the open items of a card on a day.
-- - *Newest*: of the items of a request on a day, the one with the greatest id.
use Rattle.std.specs.Prelude.{ℕ, ◌+◌, max, Bool, true, false, ◌&&◌, ◌==◌, List, [], ◌∷◌}
use Rattle.std.specs.Prelude.{Option, Some, None, if◌then◌else◌}
use Rattle.std.specs.Map.{lookup}
use Rattle.std.specs.Ordering.{nat_cmp}
use Rattle.std.specs.BTreeMap.{is_at}
use Rattle.std.specs.Str.{bytes_eq}
use Rattle.day_book.specs.declared.item.CardDay.{CardDay}
use Rattle.day_book.specs.declared.item.RequestDay.{RequestDay}
use Rattle.day_book.specs.declared.item.DayItem.{DayItem}
use Rattle.day_book.specs.declared.item.State.{State}
use Rattle.day_book.specs.declared.item.State.TheVariants.{Open, Used}

-- items under their ids, which rise
abbrev pub Items : Type 0
Items = List (ℕ × DayItem)

-- a book without where it lies in memory
pub record PlainDays : Type 0 where
  pub limit : ℕ
  pub items : Items

abbrev pub with_items : PlainDays → Items → PlainDays
with_items book items = record { limit = book.limit; items = items }

abbrev pub card_eq : CardDay → CardDay → Bool
card_eq c d = bytes_eq c.card d.card && (c.day == d.day)

abbrev pub request_eq : RequestDay → RequestDay → Bool
request_eq q r = bytes_eq q.request r.request && (q.day == r.day)

-- an item's card and its request, each on the item's day
abbrev pub card_day : DayItem → CardDay
card_day item = record { card = item.card; day = item.day }

abbrev pub request_day : DayItem → RequestDay
request_day item = record { request = item.request; day = item.day }

abbrev pub is_of : CardDay → DayItem → Bool
is_of card item = card_eq (card_day item) card

abbrev pub is_for : RequestDay → DayItem → Bool
is_for request item = request_eq (request_day item) request

abbrev pub is_open : State → Bool
is_open Open = true
is_open _ = false

abbrev pub is_used : State → Bool
is_used Used = true
is_used _ = false

-- what an item adds to its card's sums
abbrev pub spent_of : DayItem → ℕ
spent_of item = if is_used item.state then item.amount else 0

abbrev pub held_of : DayItem → ℕ
held_of item = if is_open item.state then item.amount else 0

-- the sum over the items that pass a test
abbrev pub total : (DayItem → Bool) → (DayItem → ℕ) → Items → ℕ
total test weight [] = 0
total test weight (e ∷ es) = (if test e.1 then weight e.1 else 0) + total test weight es

-- what a card has spent on a day: the sum over its used items; what is held for it: over its open ones
abbrev pub used : CardDay → Items → ℕ
used card items = total (is_of card) spent_of items

abbrev pub reserved : CardDay → Items → ℕ
reserved card items = total (is_of card) held_of items

-- the item under an id
abbrev pub item_at : ℕ → Items → Option DayItem
item_at id items = lookup (is_at (nat_cmp id)) items

-- the greater id
abbrev pub later : ℕ → Option ℕ → ℕ
later id None = id
later id (Some other) = max id other

-- the greatest id of the items of a request on a day
abbrev pub newest : RequestDay → Items → Option ℕ
newest request [] = None
newest request (e ∷ es) =
    if is_for request e.1 then Some (later e.0 (newest request es)) else newest request es

-- there is an item, and it is open
abbrev pub has_open : Option DayItem → Bool
has_open None = false
has_open (Some item) = is_open item.state

-- there is an item, and it is used
abbrev pub has_used : Option DayItem → Bool
has_used None = false
has_used (Some item) = is_used item.state

abbrev pub is_open_in : ℕ → Items → Bool
is_open_in id items = has_open (item_at id items)

abbrev pub is_used_in : ℕ → Items → Bool
is_used_in id items = has_used (item_at id items)
