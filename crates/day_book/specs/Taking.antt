-- When an item is taken: a reservation by the limit, a restored item whatever the limit is.
use Rattle.std.specs.Prelude.{◌≡◌, ℕ, ◌+◌, ◌-◌, Bool, false, ◌||◌, nat_lt, [], ◌∷◌}
use Rattle.std.specs.Prelude.{Option, Some, None, is_some}
use Rattle.sw_base.specs.Refusals.{refused_if, first_of}
use Rattle.day_book.specs.declared.item.DayItem.{DayItem}
use Rattle.day_book.specs.declared.item.RequestDay.{RequestDay}
use Rattle.day_book.specs.declared.error.DayBookError.{DayBookError}
use Rattle.day_book.specs.declared.error.DayBookError.TheVariants.{OutOfMemory, OverLimit}
use Rattle.day_book.specs.declared.error.DayBookError.TheVariants.{AmountTooLarge, Duplicate}
use Rattle.day_book.specs.declared.error.DayBookError.TheVariants.{SumTooLarge}
use Rattle.day_book.specs.Most.{max_amount, max_sum}
use Rattle.day_book.specs.Items.{Items, PlainDays, card_day, request_day, spent_of}
use Rattle.day_book.specs.Items.{used, reserved, item_at, newest, is_open_in}

-- the request of an item on the day before (of day 0: on day 0)
abbrev pub day_before : DayItem → RequestDay
day_before item = record { request = item.request; day = item.day - 1 }

-- an item has the request, on the item's day or on the day before
abbrev pub is_repeat : DayItem → Items → Bool
is_repeat item items =
    is_some (newest (request_day item) items) || is_some (newest (day_before item) items)

-- with this amount more the card is over the limit
abbrev pub is_over : PlainDays → DayItem → Bool
is_over book item = nat_lt book.limit
    (used (card_day item) book.items + reserved (card_day item) book.items + item.amount)

-- why an item is not reserved under an id, memory aside: the first reason that holds
abbrev pub refusal : PlainDays → ℕ → DayItem → Option DayBookError
refusal book id item = first_of (
    refused_if (nat_lt max_amount item.amount) AmountTooLarge
    ∷ refused_if (is_some (item_at id book.items) || is_repeat item book.items) Duplicate
    ∷ refused_if (is_over book item) OverLimit
    ∷ [])

-- an open item has the request, on the item's day
abbrev pub is_held_at : Option ℕ → Items → Bool
is_held_at None items = false
is_held_at (Some id) items = is_open_in id items

abbrev pub is_held : DayItem → Items → Bool
is_held item items = is_held_at (newest (request_day item) items) items

-- with what this item adds the card's sum is too large
abbrev pub is_too_much : Items → DayItem → Bool
is_too_much items item = nat_lt max_sum
    (used (card_day item) items + reserved (card_day item) items + spent_of item)

-- why an item is not restored under an id, memory aside: the first reason that holds
abbrev pub restoring_refusal : PlainDays → ℕ → DayItem → Option DayBookError
restoring_refusal book id item = first_of (
    refused_if (nat_lt max_amount item.amount) AmountTooLarge
    ∷ refused_if (is_some (item_at id book.items) || is_held item book.items) Duplicate
    ∷ refused_if (is_too_much book.items item) SumTooLarge
    ∷ [])

-- the error is that refusal; out of memory comes only where there is none
abbrev pub IsRefusal : DayBookError → Option DayBookError → Type 0
IsRefusal OutOfMemory r = r ≡ None
IsRefusal e r = r ≡ Some e
