-- The newest id of a request, after an item was put, changed or taken out.
-- for: book::DayBook
use Rattle.std.proofs.Common.{◌≡◌, ℕ, ◌+◌, ◌<◌, Bool, true, false, cond, [], ◌∷◌, Option, Some, None, unwrap_or, refl, sym, ap, ◌∙◌, arith}
use Rattle.std.specs.List.{All}
use Rattle.std.specs.Map.{keys_of}
use Rattle.std.specs.Ordering.{nat_cmp, is_eq, match_ordering}
use Rattle.std.specs.declared.cmp.Ordering.{Ordering}
use Rattle.std.specs.declared.cmp.Ordering.TheVariants.{Less, Equal, Greater}
use Rattle.std.specs.BTreeMap.{is_at}
use Rattle.std.specs.BTreeMap.Range.{IsLtBy}
use Rattle.std.proofs.lemmas.List.Elements.{All-head, All-tail}
use Rattle.std.proofs.lemmas.Bool.Decides.{nat_tests}
use Rattle.day_book.specs.declared.item.DayItem.{DayItem}
use Rattle.day_book.specs.declared.item.RequestDay.{RequestDay}
use Rattle.day_book.specs.Items.{Items, total, item_at, later, newest, is_for}
use Rattle.day_book.specs.Changes.{with_item, in_its_place, without}
use Rattle.day_book.specs.Kept.{one, newest_left}

below : (a b : ℕ) → nat_cmp a b ≡ Less → a < b
below a b h = grind (arith, nat_tests, h)

module _ (q : RequestDay) where
  later-swap : (a b : ℕ) (o : Option ℕ) → later a (Some (later b o)) ≡ later b (Some (later a o))
  later-swap a b None = omega arith
  later-swap a b (Some c) = omega arith

  pub newest-new : (id : ℕ) (v : DayItem) (es : Items) → item_at id es ≡ None
      → newest q (with_item id v es) ≡ cond (is_for q v) (Some (later id (newest q es))) (newest q es)
  newest-new id v [] h = refl
  newest-new id v (e ∷ es) h = by (nat_cmp id e.0) (newest-new id v es) h
    where
      both : (b d : Bool) → cond b (Some (later e.0 (cond d (Some (later id (newest q es))) (newest q es)))) (cond d (Some (later id (newest q es))) (newest q es))
          ≡ cond d (Some (later id (cond b (Some (later e.0 (newest q es))) (newest q es)))) (cond b (Some (later e.0 (newest q es))) (newest q es))
      both true true = ap {B = Option ℕ} Some (later-swap e.0 id (newest q es))
      both true false = refl
      both false true = refl
      both false false = refl

      by : (o : Ordering) → (item_at id es ≡ None → newest q (with_item id v es) ≡ cond (is_for q v) (Some (later id (newest q es))) (newest q es))
          → cond (is_eq o) (Some e.1) (item_at id es) ≡ None
          → newest q (match_ordering o ((id, v) ∷ e ∷ es) ((e.0, v) ∷ es) (e ∷ with_item id v es))
          ≡ cond (is_for q v) (Some (later id (newest q (e ∷ es)))) (newest q (e ∷ es))
      by Less go h = refl
      by Equal go h = absurd cc
      by Greater go h = ap (λ z. cond (is_for q e.1) (Some (later e.0 z)) z) (go h) ∙ both (is_for q e.1) (is_for q v)

  pub newest-set : (id : ℕ) (u v : DayItem) (es : Items) → is_for q v ≡ is_for q u → item_at id es ≡ Some u → newest q (in_its_place id v es) ≡ newest q es
  newest-set id u v [] is h = absurd cc
  newest-set id u v (e ∷ es) is h = by (is_at (nat_cmp id) e.0) (newest-set id u v es is) h
    where
      by : (b : Bool) → (item_at id es ≡ Some u → newest q (in_its_place id v es) ≡ newest q es) → cond b (Some e.1) (item_at id es) ≡ Some u
          → newest q (cond b ((e.0, v) ∷ es) (e ∷ in_its_place id v es)) ≡ newest q (e ∷ es)
      by true go h = ap (λ k. cond k (Some (later e.0 (newest q es))) (newest q es)) (is ∙ ap (λ o. is_for q (unwrap_or o u)) (sym h))
      by false go h = ap (λ z. cond (is_for q e.1) (Some (later e.0 z)) z) (go h)

  -- an item of another request goes
  pub newest-other : (id : ℕ) (u : DayItem) (es : Items) → is_for q u ≡ false → item_at id es ≡ Some u → newest q (without id es) ≡ newest q es
  newest-other id u [] apart h = absurd cc
  newest-other id u (e ∷ es) apart h = by (is_at (nat_cmp id) e.0) (newest-other id u es apart) h
    where
      by : (b : Bool) → (item_at id es ≡ Some u → newest q (without id es) ≡ newest q es) → cond b (Some e.1) (item_at id es) ≡ Some u
          → newest q (cond b es (e ∷ without id es)) ≡ newest q (e ∷ es)
      by true go h = sym (ap (λ k. cond k (Some (later e.0 (newest q es))) (newest q es)) (ap (λ o. is_for q (unwrap_or o u)) h ∙ apart))
      by false go h = ap (λ z. cond (is_for q e.1) (Some (later e.0 z)) z) (go h)

  -- no item has the request
  pub newest-none : (es : Items) → total (is_for q) one es ≡ 0 → newest q es ≡ None
  newest-none [] h = refl
  newest-none (e ∷ es) h = by (is_for q e.1) (newest-none es) h
    where
      by : (b : Bool) → (total (is_for q) one es ≡ 0 → newest q es ≡ None) → cond b 1 0 + total (is_for q) one es ≡ 0
          → cond b (Some (later e.0 (newest q es))) (newest q es) ≡ None
      by true go h = absurd (omega (arith, h))
      by false go h = go (omega (arith, h))

  pub none-newest : (es : Items) → newest q es ≡ None → total (is_for q) one es ≡ 0
  none-newest [] h = search arith
  none-newest (e ∷ es) h = by (is_for q e.1) (none-newest es) h
    where
      by : (b : Bool) → (newest q es ≡ None → total (is_for q) one es ≡ 0) → cond b (Some (later e.0 (newest q es))) (newest q es) ≡ None
          → cond b 1 0 + total (is_for q) one es ≡ 0
      by true go h = absurd cc
      by false go h = omega (arith, go h)

  -- the ids of what comes after a first one are greater, and so is the newest of them
  above : (id : ℕ) (es : Items) (j : ℕ) → All (IsLtBy nat_cmp id) (keys_of es) → newest q es ≡ Some j → id < j
  above id [] j all h = absurd cc
  above id (e ∷ es) j all h =
      by (is_for q e.1) (below id e.0 (All-head (IsLtBy nat_cmp id) e.0 (keys_of es) all)) (above id es j (All-tail (IsLtBy nat_cmp id) e.0 (keys_of es) all)) h
    where
      up : (o : Option ℕ) → id < e.0 → Some (later e.0 o) ≡ Some j → id < j
      up None less h = omega (arith, less, ap (λ z. unwrap_or z 0) h)
      up (Some k) less h = omega (arith, less, ap (λ z. unwrap_or z 0) h)

      by : (b : Bool) → id < e.0 → (newest q es ≡ Some j → id < j) → cond b (Some (later e.0 (newest q es))) (newest q es) ≡ Some j → id < j
      by true less go h = up (newest q es) less h
      by false less go h = go h

  -- the first item goes
  pub newest-first : (id : ℕ) (u : DayItem) (es : Items) → All (IsLtBy nat_cmp id) (keys_of es)
      → newest q es ≡ cond (is_for q u) (newest_left id (newest q ((id, u) ∷ es))) (newest q ((id, u) ∷ es))
  newest-first id u es all = by (is_for q u)
    where
      left : (o : Option ℕ) → ((j : ℕ) → o ≡ Some j → id < j) → o ≡ newest_left id (Some (later id o))
      left None up = grind (arith, nat_tests)
      left (Some j) up = let less = up j refl in grind (arith, nat_tests, less)

      by : (b : Bool) → newest q es ≡ cond b (newest_left id (cond b (Some (later id (newest q es))) (newest q es))) (cond b (Some (later id (newest q es))) (newest q es))
      by true = left (newest q es) (λ j. above id es j all)
      by false = refl
