-- How a book of days is kept: the items by id, beside them the newest id of each request and each
-- card's sums.
use Rattle.std.specs.Prelude.{◌≡◌, ℕ, ◌+◌, ◌≤◌, ◌==◌, false, Option, Some, None, IsTrue, if◌then◌else◌}
use Rattle.day_book.specs.declared.item.CardDay.{CardDay}
use Rattle.day_book.specs.declared.item.RequestDay.{RequestDay}
use Rattle.day_book.specs.declared.item.DayItem.{DayItem}
use Rattle.day_book.specs.declared.item.Totals.{Totals}
use Rattle.day_book.specs.Most.{max_limit, max_sum}
use Rattle.day_book.specs.Items.{Items, total, used, reserved, is_of, is_for, is_open, item_at}
use Rattle.day_book.specs.Items.{newest, card_day, request_day, spent_of, held_of}
use Rattle.day_book.specs.Taking.{is_held}

-- each item counts once
abbrev pub one : DayItem → ℕ
one item = 1

-- no other item of its day has the request of an open one
abbrev pub HasOpenAlone : Items → Type 0
HasOpenAlone items = (id : ℕ) (item : DayItem) → item_at id items ≡ Some item
    → IsTrue (is_open item.state) → total (is_for (request_day item)) one items ≡ 1

-- a card without sums has spent nothing, and nothing is held for it
abbrev pub totals_in : Option Totals → Totals
totals_in None = record { used = 0; reserved = 0 }
totals_in (Some t) = t

-- sums of 0 are not kept
abbrev pub kept_totals : Totals → Option Totals
kept_totals t = if t.used + t.reserved == 0 then None else Some t

-- the newest id of a request after the item under an id went, if that was the only one that could be the newest
abbrev pub newest_left : ℕ → Option ℕ → Option ℕ
newest_left id None = None
newest_left id (Some other) = if other == id then None else Some other

-- the newest ids and the sums are those of the items
pub record IsDayBook (limit : ℕ) (items : Items)
    (ids : RequestDay → Option ℕ) (totals : CardDay → Option Totals) : Type 0 where
  pub small : limit ≤ max_limit
  pub alone : HasOpenAlone items
  pub found : (request : RequestDay) → ids request ≡ newest request items
  pub spent : (card : CardDay) → (totals_in (totals card)).used ≡ used card items
  pub held : (card : CardDay) → (totals_in (totals card)).reserved ≡ reserved card items
  pub within : (card : CardDay) → used card items + reserved card items ≤ max_sum
  -- no sums are kept of a card without items, so that what is forgotten leaves memory
  pub lean : (card : CardDay) → total (is_of card) one items ≡ 0 → totals card ≡ None

-- these are the sums of a card
pub record IsTotals (t : Totals) (card : CardDay) (items : Items) : Type 0 where
  pub used : t.used ≡ used card items
  pub reserved : t.reserved ≡ reserved card items

-- an item may be put under an id
pub record Takes (id : ℕ) (item : DayItem) (items : Items) : Type 0 where
  pub free : item_at id items ≡ None
  pub unheld : is_held item items ≡ false
  pub unknown : IsTrue (is_open item.state) → newest (request_day item) items ≡ None
  pub within : used (card_day item) items + reserved (card_day item) items
      + spent_of item + held_of item ≤ max_sum

-- an item may take the place of another one of its card and its request: it is not open, and adds no more to the sums
pub record Changes (item changed : DayItem) : Type 0 where
  pub closed : is_open changed.state ≡ false
  pub less : spent_of changed ≤ spent_of item + held_of item
