-- What is made of the items by each call.
--
-- - *Settled, released, reversed*: one item went from open to used, was taken out, went from used to
--   reversed.
-- - *Forgotten*: the first item was taken out, since its day is past and it is not open.
use Rattle.std.specs.Prelude.{ℕ, Bool, false, not, ◌&&◌, nat_lt, [], ◌∷◌}
use Rattle.std.specs.Prelude.{Option, Some, None, if◌then◌else◌}
use Rattle.std.specs.Map.{remove_entry, set_value}
use Rattle.std.specs.Ordering.{nat_cmp}
use Rattle.std.specs.BTreeMap.{insert_entry, is_at}
use Rattle.day_book.specs.declared.item.DayItem.{DayItem}
use Rattle.day_book.specs.declared.item.State.{State}
use Rattle.day_book.specs.declared.item.State.TheVariants.{Used, Reversed}
use Rattle.day_book.specs.Items.{Items, item_at, is_open, is_used, is_open_in}

-- with a new item, in the order of ids
abbrev pub with_item : ℕ → DayItem → Items → Items
with_item id item items = insert_entry nat_cmp items id item

-- with another item in place of the one under an id
abbrev pub in_its_place : ℕ → DayItem → Items → Items
in_its_place id item items = set_value (is_at (nat_cmp id)) items item

-- without the item under an id
abbrev pub without : ℕ → Items → Items
without id items = remove_entry (is_at (nat_cmp id)) items

abbrev pub in_state : State → DayItem → DayItem
in_state state item = record {
  card = item.card;
  request = item.request;
  amount = item.amount;
  day = item.day;
  state = state;
}

-- settle: open to used
abbrev pub settled_by : ℕ → Option DayItem → Items → Items
settled_by id None items = items
settled_by id (Some item) items =
    if is_open item.state then in_its_place id (in_state Used item) items else items

abbrev pub settled : ℕ → Items → Items
settled id items = settled_by id (item_at id items) items

-- release: open taken out
abbrev pub released : ℕ → Items → Items
released id items = if is_open_in id items then without id items else items

-- reverse: used to reversed
abbrev pub reversed_by : ℕ → Option DayItem → Items → Items
reversed_by id None items = items
reversed_by id (Some item) items =
    if is_used item.state then in_its_place id (in_state Reversed item) items else items

abbrev pub reversed : ℕ → Items → Items
reversed id items = reversed_by id (item_at id items) items

-- an item of a day before this one that is not open
abbrev pub is_past : ℕ → DayItem → Bool
is_past before item = nat_lt item.day before && not (is_open item.state)

abbrev pub is_first_past : ℕ → Items → Bool
is_first_past before [] = false
is_first_past before (e ∷ es) = is_past before e.1

abbrev pub forgotten : ℕ → Items → Items
forgotten before [] = []
forgotten before (e ∷ es) = if is_past before e.1 then es else e ∷ es
