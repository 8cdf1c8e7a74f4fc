-- A book: what the cards have spent, and what is held for open transactions.
--
-- - *Used, reserved*: the sums over a card's used and open items.
--   *Settled, released, reversed*: the list after one item went from open to used, was taken out,
--   went from used to reversed.
use Rattle.std.specs.Prelude.{◌≡◌, ℕ, ◌+◌, ◌≤◌, Bool, true, false, ◌||◌, nat_lt, List, [], ◌∷◌}
use Rattle.std.specs.Prelude.{Option, Some, None, is_some, if◌then◌else◌}
use Rattle.std.specs.Map.{lookup, remove_entry, set_value}
use Rattle.std.specs.Ordering.{nat_cmp}
use Rattle.std.specs.BTreeMap.{insert_entry, is_at}
use Rattle.std.specs.Str.{bytes_eq}
use Rattle.sw_base.specs.Refusals.{refused_if, first_of}
use Rattle.sw_book.specs.declared.item.Card.{Card}
use Rattle.sw_book.specs.declared.item.BookKey.{BookKey}
use Rattle.sw_book.specs.declared.item.Item.{Item}
use Rattle.sw_book.specs.declared.item.Totals.{Totals}
use Rattle.sw_book.specs.declared.item.State.{State}
use Rattle.sw_book.specs.declared.item.State.TheVariants.{Open, Used, Reversed}
use Rattle.sw_book.specs.Most.{max_amount}
use Rattle.sw_book.specs.declared.error.BookError.{BookError}
use Rattle.sw_book.specs.declared.error.BookError.TheVariants.{OutOfMemory, OverLimit}
use Rattle.sw_book.specs.declared.error.BookError.TheVariants.{AmountTooLarge, Duplicate}

-- items under their ids, which rise
abbrev pub Items : Type 0
Items = List (ℕ × Item)

-- a book without where it lies in memory
pub record PlainBook : Type 0 where
  pub limit : ℕ
  pub items : Items

abbrev pub with_items : PlainBook → Items → PlainBook
with_items book items = record { limit = book.limit; items = items }

abbrev pub key_eq : BookKey → BookKey → Bool
key_eq k q = bytes_eq k.bytes q.bytes

abbrev pub card_eq : Card → Card → Bool
card_eq c q = bytes_eq c.digits q.digits

abbrev pub is_open : State → Bool
is_open Open = true
is_open _ = false

abbrev pub is_used : State → Bool
is_used Used = true
is_used _ = false

-- what an item adds to its card's sums
abbrev pub spent_of : Item → ℕ
spent_of item = if is_used item.state then item.amount else 0

abbrev pub held_of : Item → ℕ
held_of item = if is_open item.state then item.amount else 0

-- the sum over the items of a card
abbrev pub total : (Item → ℕ) → Card → Items → ℕ
total weight card [] = 0
total weight card (e ∷ es) =
    (if card_eq e.1.card card then weight e.1 else 0) + total weight card es

-- what a card has spent: the sum over its used items; what is held for it: over its open ones
abbrev pub used : Card → Items → ℕ
used card items = total spent_of card items

abbrev pub reserved : Card → Items → ℕ
reserved card items = total held_of card items

-- no card is over the limit
abbrev pub IsWithinLimit : PlainBook → Type 0
IsWithinLimit book = (card : Card) → used card book.items + reserved card book.items ≤ book.limit

-- the item under an id, and the id of the item with a key
abbrev pub item_at : ℕ → Items → Option Item
item_at id items = lookup (is_at (nat_cmp id)) items

abbrev pub id_of : BookKey → Items → Option ℕ
id_of key [] = None
id_of key (e ∷ es) = if key_eq e.1.key key then Some e.0 else id_of key es

-- with a new item, in the order of ids
abbrev pub with_item : ℕ → Item → Items → Items
with_item id item items = insert_entry nat_cmp items id item

-- with another item in place of the one under an id
abbrev pub in_its_place : ℕ → Item → Items → Items
in_its_place id item items = set_value (is_at (nat_cmp id)) items item

-- without the item under an id
abbrev pub without : ℕ → Items → Items
without id items = remove_entry (is_at (nat_cmp id)) items

abbrev pub in_state : State → Item → Item
in_state state item =
    record { card = item.card; key = item.key; amount = item.amount; state = state }

-- there is an item, and it is open
abbrev pub has_open : Option Item → Bool
has_open None = false
has_open (Some item) = is_open item.state

-- there is an item, and it is used
abbrev pub has_used : Option Item → Bool
has_used None = false
has_used (Some item) = is_used item.state

-- settle: open to used
abbrev pub settled_by : ℕ → Option Item → Items → Items
settled_by id None items = items
settled_by id (Some item) items =
    if is_open item.state then in_its_place id (in_state Used item) items else items

abbrev pub settled : ℕ → Items → Items
settled id items = settled_by id (item_at id items) items

abbrev pub is_open_in : ℕ → Items → Bool
is_open_in id items = has_open (item_at id items)

-- release: open taken out
abbrev pub released : ℕ → Items → Items
released id items = if is_open_in id items then without id items else items

-- reverse: used to reversed, and the key stays
abbrev pub reversed_by : ℕ → Option Item → Items → Items
reversed_by id None items = items
reversed_by id (Some item) items =
    if is_used item.state then in_its_place id (in_state Reversed item) items else items

abbrev pub reversed_at : Option ℕ → Items → Items
reversed_at None items = items
reversed_at (Some id) items = reversed_by id (item_at id items) items

abbrev pub reversed : BookKey → Items → Items
reversed key items = reversed_at (id_of key items) items

-- an item is used: that under an id, if there is one; that with a key
abbrev pub is_used_at : Option ℕ → Items → Bool
is_used_at None items = false
is_used_at (Some id) items = has_used (item_at id items)

abbrev pub is_used_in : BookKey → Items → Bool
is_used_in key items = is_used_at (id_of key items) items

-- an item has the id or the key
abbrev pub is_taken : ℕ → BookKey → Items → Bool
is_taken id key items = is_some (item_at id items) || is_some (id_of key items)

-- with this amount more the card is over the limit
abbrev pub is_over : PlainBook → Card → ℕ → Bool
is_over book card amount =
    nat_lt book.limit (used card book.items + reserved card book.items + amount)

-- why an amount of a card is not reserved under an id and with a key, memory aside: the first reason that holds
abbrev pub refusal : PlainBook → ℕ → Card → BookKey → ℕ → Option BookError
refusal book id card key amount = first_of (
    refused_if (nat_lt max_amount amount) AmountTooLarge
    ∷ refused_if (is_taken id key book.items) Duplicate
    ∷ refused_if (is_over book card amount) OverLimit
    ∷ [])

-- the error is that refusal; out of memory comes only where there is none
abbrev pub IsRefusal : BookError → Option BookError → Type 0
IsRefusal OutOfMemory r = r ≡ None
IsRefusal e r = r ≡ Some e

-- a card without sums has spent nothing, and nothing is held for it
abbrev pub totals_in : Option Totals → Totals
totals_in None = record { used = 0; reserved = 0 }
totals_in (Some t) = t
