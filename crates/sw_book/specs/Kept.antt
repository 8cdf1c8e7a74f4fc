-- How a book is kept: the items by id, beside them the ids by key and each card's sums.
use Rattle.std.specs.Prelude.{◌≡◌, ℕ, ◌+◌, ◌≤◌, [], ◌∷◌, Option, None}
use Rattle.sw_book.specs.declared.item.Card.{Card}
use Rattle.sw_book.specs.declared.item.BookKey.{BookKey}
use Rattle.sw_book.specs.declared.item.Item.{Item}
use Rattle.sw_book.specs.declared.item.Totals.{Totals}
use Rattle.sw_book.specs.Most.{max_limit}
use Rattle.sw_book.specs.Items.{Items, id_of, total, used, reserved, totals_in}

-- no key occurs twice
abbrev pub HaveOwnKeys : Items → Type 0
HaveOwnKeys [] = Unit {0}
HaveOwnKeys (e ∷ es) = (id_of e.1.key es ≡ None) × HaveOwnKeys es

-- each item counts once
abbrev pub one : Item → ℕ
one item = 1

-- ids by key and sums by card are those of the items, and no card is over the limit
pub record IsBook (limit : ℕ) (items : Items)
    (ids : BookKey → Option ℕ) (totals : Card → Option Totals) : Type 0 where
  pub small : limit ≤ max_limit
  pub own : HaveOwnKeys items
  pub found : (key : BookKey) → ids key ≡ id_of key items
  pub spent : (card : Card) → (totals_in (totals card)).used ≡ used card items
  pub held : (card : Card) → (totals_in (totals card)).reserved ≡ reserved card items
  -- a card without sums has no items, so changing those of a card that has items takes no memory
  pub known : (card : Card) → totals card ≡ None → total one card items ≡ 0
  pub within : (card : Card) → used card items + reserved card items ≤ limit
