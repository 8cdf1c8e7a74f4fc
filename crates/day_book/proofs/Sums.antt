-- Sums over the items that pass a test, after an item was put, changed or taken out.
-- for: book::DayBook
use Rattle.std.proofs.Common.{◌≡◌, ℕ, ◌+◌, ◌≤◌, Bool, true, false, cond, [], ◌∷◌, Some, None, unwrap_or, ap, arith}
use Rattle.std.specs.Ordering.{nat_cmp, is_eq, match_ordering}
use Rattle.std.specs.declared.cmp.Ordering.{Ordering}
use Rattle.std.specs.declared.cmp.Ordering.TheVariants.{Less, Equal, Greater}
use Rattle.std.specs.BTreeMap.{is_at}
use Rattle.day_book.specs.declared.item.DayItem.{DayItem}
use Rattle.day_book.specs.Items.{Items, total, item_at}
use Rattle.day_book.specs.Changes.{with_item, in_its_place, without}
use Rattle.day_book.specs.Kept.{one}

-- what an item adds to a sum
abbrev pub share : (DayItem → Bool) → (DayItem → ℕ) → DayItem → ℕ
share p w v = cond (p v) (w v) 0

module _ (p : DayItem → Bool) where
  pub total-new : (w : DayItem → ℕ) (id : ℕ) (v : DayItem) (es : Items) → item_at id es ≡ None → total p w (with_item id v es) ≡ total p w es + share p w v
  total-new w id v [] h = grind arith
  total-new w id v (e ∷ es) h = by (nat_cmp id e.0) (total-new w id v es) h
    where
      by : (o : Ordering) → (item_at id es ≡ None → total p w (with_item id v es) ≡ total p w es + share p w v)
          → cond (is_eq o) (Some e.1) (item_at id es) ≡ None
          → total p w (match_ordering o ((id, v) ∷ e ∷ es) ((e.0, v) ∷ es) (e ∷ with_item id v es)) ≡ share p w e.1 + total p w es + share p w v
      by Less go h = grind arith
      by Equal go h = absurd cc
      by Greater go h = omega (arith, go h)

  pub total-set : (w : DayItem → ℕ) (id : ℕ) (u v : DayItem) (es : Items) → item_at id es ≡ Some u →
      total p w (in_its_place id v es) + share p w u ≡ total p w es + share p w v
  total-set w id u v [] h = absurd cc
  total-set w id u v (e ∷ es) h = by (is_at (nat_cmp id) e.0) (total-set w id u v es) h
    where
      by : (b : Bool) → (item_at id es ≡ Some u → total p w (in_its_place id v es) + share p w u ≡ total p w es + share p w v) →
          cond b (Some e.1) (item_at id es) ≡ Some u
          → total p w (cond b ((e.0, v) ∷ es) (e ∷ in_its_place id v es)) + share p w u ≡ share p w e.1 + total p w es + share p w v
      by true go h = let same : share p w e.1 ≡ share p w u = ap (λ o. share p w (unwrap_or o u)) h in omega (arith, same)
      by false go h = omega (arith, go h)

  pub total-out : (w : DayItem → ℕ) (id : ℕ) (u : DayItem) (es : Items) → item_at id es ≡ Some u → total p w (without id es) + share p w u ≡ total p w es
  total-out w id u [] h = absurd cc
  total-out w id u (e ∷ es) h = by (is_at (nat_cmp id) e.0) (total-out w id u es) h
    where
      by : (b : Bool) → (item_at id es ≡ Some u → total p w (without id es) + share p w u ≡ total p w es) → cond b (Some e.1) (item_at id es) ≡ Some u
          → total p w (cond b es (e ∷ without id es)) + share p w u ≡ share p w e.1 + total p w es
      by true go h = let same : share p w e.1 ≡ share p w u = ap (λ o. share p w (unwrap_or o u)) h in omega (arith, same)
      by false go h = omega (arith, go h)

  pub total-has : (w : DayItem → ℕ) (id : ℕ) (u : DayItem) (es : Items) → item_at id es ≡ Some u → share p w u ≤ total p w es
  total-has w id u es h = omega (arith, total-out w id u es h)

  -- where nothing passes, nothing is added
  pub total-none : (w : DayItem → ℕ) (es : Items) → total p one es ≡ 0 → total p w es ≡ 0
  total-none w [] h = search arith
  total-none w (e ∷ es) h = by (p e.1) (total-none w es) h
    where
      by : (b : Bool) → (total p one es ≡ 0 → total p w es ≡ 0) → cond b 1 0 + total p one es ≡ 0 → cond b (w e.1) 0 + total p w es ≡ 0
      by true go h = absurd (omega (arith, h))
      by false go h = omega (arith, go (omega (arith, h)))
