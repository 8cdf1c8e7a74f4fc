-- What a map of the library has after an insertion or a removal is `put_by` of what it had.
-- for: whoever keeps a list under rising keys in a map
use Rattle.std.proofs.Common.{◌≡◌, ℕ, Bool, true, false, ◌⊎◌, inl, inr, List, [], ◌∷◌, Some, None, refl, sym, ◌∙◌, ap, subst, filter}
use Rattle.std.specs.Prelude.{if◌then◌else◌, ◌==◌, ◌||◌, ◌&&◌, nat_lt}
use Rattle.std.specs.Ordering.{is_lt, nat_cmp, ordering_reverse, ordering_then}
use Rattle.std.specs.declared.cmp.Ordering.{Ordering}
use Rattle.std.specs.declared.cmp.Ordering.TheVariants.{Less, Equal, Greater}
use Rattle.std.specs.Cmp.{IsTotalOrder}
use Rattle.std.specs.List.{AllByRecursion}
use Rattle.std.specs.List.Sorted.{IsStrictlySortedBy}
use Rattle.std.specs.Map.{keys_of, remove_entry}
use Rattle.std.specs.BTreeMap.{insert_entry, is_at}
use Rattle.std.proofs.lemmas.Cmp.{nat_cmp_total, then_total, on_total}
use Rattle.std.proofs.lemmas.Map.Lookups.{exact_unsigned}
use Rattle.std.proofs.lemmas.Map.Keys.{sorted_head, sorted_tail}
use Rattle.tx_history.specs.Keys.{put_by, place_lt, place_cmp}

-- a test that tells what is less in an order in which equal keys are the same
pub record Orders {K : Type 0} (cmp : K → K → Ordering) (lt : K → K → Bool) : Type 0 where
  pub total : IsTotalOrder cmp
  pub exact : (a b : K) → cmp a b ≡ Equal → a ≡ b
  pub less : (a b : K) → lt a b ≡ is_lt (cmp a b)

module _ {K : Type 0} (cmp : K → K → Ordering) (lt : K → K → Bool) (o : Orders cmp lt) where
  back : (a b : K) → cmp a b ≡ Less → cmp b a ≡ Greater
  back a b h = o.total.antisymm b a ∙ ap ordering_reverse h

  front : (a b : K) → cmp a b ≡ Greater → cmp b a ≡ Less
  front a b h = o.total.antisymm b a ∙ ap ordering_reverse h

module _ {K A : Type 0} (cmp : K → K → Ordering) (lt : K → K → Bool) (o : Orders cmp lt) where
  -- nothing after a key that is not below k is below k
  none_low : (k x : K) (xs : List (K × A)) → (cmp k x ≡ Less) ⊎ (k ≡ x) → AllByRecursion (λ y. cmp x y ≡ Less) (keys_of xs) →
      filter (λ (p : K × A). lt p.0 k) xs ≡ []
  none_low k x [] h all = refl
  none_low k x (y ∷ xs) h all =
      let up : cmp k y.0 ≡ Less = elim h [ inl l ↦ o.total.trans k x y.0 l all.0 | inr e ↦ subst (λ (z : K). cmp z y.0 ≡ Less) (sym e) all.0 ] in
      let no : lt y.0 k ≡ false = o.less y.0 k ∙ ap is_lt (back cmp lt o k y.0 up) in
      rw no (none_low k x xs h all.1)

  -- and everything after it is above k
  all_high : (k x : K) (xs : List (K × A)) → (cmp k x ≡ Less) ⊎ (k ≡ x) → AllByRecursion (λ y. cmp x y ≡ Less) (keys_of xs) →
      filter (λ (p : K × A). lt k p.0) xs ≡ xs
  all_high k x [] h all = refl
  all_high k x (y ∷ xs) h all =
      let up : cmp k y.0 ≡ Less = elim h [ inl l ↦ o.total.trans k x y.0 l all.0 | inr e ↦ subst (λ (z : K). cmp z y.0 ≡ Less) (sym e) all.0 ] in
      let yes : lt k y.0 ≡ true = o.less k y.0 ∙ ap is_lt up in
      rw yes (ap (λ (l : List (K × A)). y ∷ l) (all_high k x xs h all.1))

  insert_at : (x : K × A) (xs : List (K × A)) (k : K) (v : A) → IsStrictlySortedBy cmp (keys_of (x ∷ xs)) →
      insert_entry cmp xs k v ≡ put_by lt k (Some v) xs → (r : Ordering) → cmp k x.0 ≡ r
      → insert_entry cmp (x ∷ xs) k v ≡ put_by lt k (Some v) (x ∷ xs)
  insert_at x xs k v sorted ih Less e =
      let above = sorted_head cmp x.0 (keys_of xs) sorted in
      let low : lt x.0 k ≡ false = o.less x.0 k ∙ ap is_lt (back cmp lt o k x.0 e) in
      let high : lt k x.0 ≡ true = o.less k x.0 ∙ ap is_lt e in
      rw (e, low, high, none_low k x.0 xs (inl e) above, all_high k x.0 xs (inl e) above) refl
  insert_at x xs k v sorted ih Equal e =
      let above = sorted_head cmp x.0 (keys_of xs) sorted in
      let same : k ≡ x.0 = o.exact k x.0 e in
      let low : lt x.0 k ≡ false = o.less x.0 k ∙ ap is_lt (o.total.antisymm x.0 k ∙ ap ordering_reverse e) in
      let high : lt k x.0 ≡ false = o.less k x.0 ∙ ap is_lt e in
      rw (e, low, high, none_low k x.0 xs (inr same) above, all_high k x.0 xs (inr same) above) (ap (λ (z : K). (z, v) ∷ xs) (sym same))
  insert_at x xs k v sorted ih Greater e =
      let low : lt x.0 k ≡ true = o.less x.0 k ∙ ap is_lt (front cmp lt o k x.0 e) in
      let high : lt k x.0 ≡ false = o.less k x.0 ∙ ap is_lt e in
      rw (e, low, high) (ap (λ (l : List (K × A)). x ∷ l) ih)

  -- an insertion puts the value under the key
  pub insert_put_by : (xs : List (K × A)) (k : K) (v : A) → IsStrictlySortedBy cmp (keys_of xs) → insert_entry cmp xs k v ≡ put_by lt k (Some v) xs
  insert_put_by [] k v sorted = refl
  insert_put_by (x ∷ xs) k v sorted = insert_at x xs k v sorted (insert_put_by xs k v (sorted_tail cmp x.0 (keys_of xs) sorted)) (cmp k x.0) refl

  remove_at : (x : K × A) (xs : List (K × A)) (k : K) → IsStrictlySortedBy cmp (keys_of (x ∷ xs)) → remove_entry (is_at (cmp k)) xs ≡ put_by lt k None xs →
      (r : Ordering) → cmp k x.0 ≡ r
      → remove_entry (is_at (cmp k)) (x ∷ xs) ≡ put_by lt k None (x ∷ xs)
  remove_at x xs k sorted ih Less e =
      let above = sorted_head cmp x.0 (keys_of xs) sorted in
      let low : lt x.0 k ≡ false = o.less x.0 k ∙ ap is_lt (back cmp lt o k x.0 e) in
      let high : lt k x.0 ≡ true = o.less k x.0 ∙ ap is_lt e in
      let lows = none_low k x.0 xs (inl e) above in
      let highs = all_high k x.0 xs (inl e) above in
      rw (e, low, high, lows, highs) (ap (λ (l : List (K × A)). x ∷ l) (ih ∙ (rw (lows, highs) refl)))
  remove_at x xs k sorted ih Equal e =
      let above = sorted_head cmp x.0 (keys_of xs) sorted in
      let same : k ≡ x.0 = o.exact k x.0 e in
      let low : lt x.0 k ≡ false = o.less x.0 k ∙ ap is_lt (o.total.antisymm x.0 k ∙ ap ordering_reverse e) in
      let high : lt k x.0 ≡ false = o.less k x.0 ∙ ap is_lt e in
      rw (e, low, high, none_low k x.0 xs (inr same) above, all_high k x.0 xs (inr same) above) refl
  remove_at x xs k sorted ih Greater e =
      let low : lt x.0 k ≡ true = o.less x.0 k ∙ ap is_lt (front cmp lt o k x.0 e) in
      let high : lt k x.0 ≡ false = o.less k x.0 ∙ ap is_lt e in
      rw (e, low, high) (ap (λ (l : List (K × A)). x ∷ l) ih)

  -- a removal leaves nothing under the key
  pub remove_put_by : (xs : List (K × A)) (k : K) → IsStrictlySortedBy cmp (keys_of xs) → remove_entry (is_at (cmp k)) xs ≡ put_by lt k None xs
  remove_put_by [] k sorted = refl
  remove_put_by (x ∷ xs) k sorted = remove_at x xs k sorted (remove_put_by xs k (sorted_tail cmp x.0 (keys_of xs) sorted)) (cmp k x.0) refl

-- ids, in the order of their numbers

nat_less : (a b : ℕ) → nat_lt a b ≡ is_lt (nat_cmp a b)
nat_less a b = by (nat_lt a b) (a == b)
  where
    by : (x y : Bool) → x ≡ is_lt (if x then Less else if y then Equal else Greater)
    by true y = refl
    by false true = refl
    by false false = refl

pub ids_order : Orders nat_cmp nat_lt
ids_order = record { total = nat_cmp_total; exact = exact_unsigned; less = nat_less }

-- places, first by the transaction

place_exact : (a b : ℕ × ℕ) → place_cmp a b ≡ Equal → a ≡ b
place_exact a b h = by (nat_cmp a.0 b.0) refl h
  where
    by : (r : Ordering) → nat_cmp a.0 b.0 ≡ r → ordering_then r (nat_cmp a.1 b.1) ≡ Equal → a ≡ b
    by Less e h = absurd (cc)
    by Equal e h = let p : a.0 ≡ b.0 = exact_unsigned a.0 b.0 e in let q : a.1 ≡ b.1 = exact_unsigned a.1 b.1 h in
        ap (λ (x : ℕ). (x, a.1)) p ∙ ap (λ (y : ℕ). (b.0, y)) q
    by Greater e h = absurd (cc)

place_less : (a b : ℕ × ℕ) → place_lt a b ≡ is_lt (place_cmp a b)
place_less a b = ap (λ (x : Bool). nat_lt a.0 b.0 || ((a.0 == b.0) && x)) (nat_less a.1 b.1) ∙ by (nat_lt a.0 b.0) (a.0 == b.0) (nat_cmp a.1 b.1)
  where
    by : (x y : Bool) (r : Ordering) → (x || (y && is_lt r)) ≡ is_lt (ordering_then (if x then Less else if y then Equal else Greater) r)
    by true y r = refl
    by false true r = refl
    by false false r = refl

pub places_order : Orders place_cmp place_lt
places_order = record {
  total = then_total (on_total (λ (a : ℕ × ℕ). a.0) nat_cmp_total) (on_total (λ (a : ℕ × ℕ). a.1) nat_cmp_total);
  exact =
      place_exact;
  less = place_less;
}
