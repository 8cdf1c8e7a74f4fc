-- Sums over the items of a card, after an item was put, changed or taken out.
-- for: book::Book
use Rattle.std.proofs.Common.{◌≡◌, ℕ, ◌+◌, ◌≤◌, Bool, true, false, cond, [], ◌∷◌, Some, None, unwrap_or, ap, arith}
use Rattle.std.specs.Ordering.{nat_cmp, is_eq, match_ordering}
use Rattle.std.specs.declared.cmp.Ordering.{Ordering}
use Rattle.std.specs.declared.cmp.Ordering.TheVariants.{Less, Equal, Greater}
use Rattle.std.specs.BTreeMap.{is_at}
use Rattle.sw_book.specs.declared.item.Card.{Card}
use Rattle.sw_book.specs.declared.item.Item.{Item}
use Rattle.sw_book.specs.Items.{Items, total, card_eq, item_at, with_item, in_its_place, without}

-- what an item adds to a sum of a card
abbrev pub share : (Item → ℕ) → Card → Item → ℕ
share w c item = cond (card_eq item.card c) (w item) 0

pub total-new : (w : Item → ℕ) (c : Card) (id : ℕ) (v : Item) (es : Items) → item_at id es ≡ None → total w c (with_item id v es) ≡ total w c es + share w c v
total-new w c id v [] h = grind arith
total-new w c id v (e ∷ es) h = by (nat_cmp id e.0) (total-new w c id v es) h
  where
    by : (o : Ordering) → (item_at id es ≡ None → total w c (with_item id v es) ≡ total w c es + share w c v)
        → cond (is_eq o) (Some e.1) (item_at id es) ≡ None
        → total w c (match_ordering o ((id, v) ∷ e ∷ es) ((e.0, v) ∷ es) (e ∷ with_item id v es)) ≡ share w c e.1 + total w c es + share w c v
    by Less go h = grind arith
    by Equal go h = absurd cc
    by Greater go h = omega (arith, go h)

pub total-set : (w : Item → ℕ) (c : Card) (id : ℕ) (u v : Item) (es : Items) → item_at id es ≡ Some u →
    total w c (in_its_place id v es) + share w c u ≡ total w c es + share w c v
total-set w c id u v [] h = absurd cc
total-set w c id u v (e ∷ es) h = by (is_at (nat_cmp id) e.0) (total-set w c id u v es) h
  where
    by : (b : Bool) → (item_at id es ≡ Some u → total w c (in_its_place id v es) + share w c u ≡ total w c es + share w c v) →
        cond b (Some e.1) (item_at id es) ≡ Some u
        → total w c (cond b ((e.0, v) ∷ es) (e ∷ in_its_place id v es)) + share w c u ≡ share w c e.1 + total w c es + share w c v
    by true go h = let same : share w c e.1 ≡ share w c u = ap (λ o. share w c (unwrap_or o u)) h in omega (arith, same)
    by false go h = omega (arith, go h)

pub total-out : (w : Item → ℕ) (c : Card) (id : ℕ) (u : Item) (es : Items) → item_at id es ≡ Some u → total w c (without id es) + share w c u ≡ total w c es
total-out w c id u [] h = absurd cc
total-out w c id u (e ∷ es) h = by (is_at (nat_cmp id) e.0) (total-out w c id u es) h
  where
    by : (b : Bool) → (item_at id es ≡ Some u → total w c (without id es) + share w c u ≡ total w c es) → cond b (Some e.1) (item_at id es) ≡ Some u
        → total w c (cond b es (e ∷ without id es)) + share w c u ≡ share w c e.1 + total w c es
    by true go h = let same : share w c e.1 ≡ share w c u = ap (λ o. share w c (unwrap_or o u)) h in omega (arith, same)
    by false go h = omega (arith, go h)

pub total-has : (w : Item → ℕ) (c : Card) (id : ℕ) (u : Item) (es : Items) → item_at id es ≡ Some u → share w c u ≤ total w c es
total-has w c id u es h = omega (arith, total-out w c id u es h)
