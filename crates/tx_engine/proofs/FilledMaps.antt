-- A map that is filled in the order of its keys has its items in that order.
-- for: engine::opening::shelf_of, engine::opening::advices_of
use Rattle.std.proofs.Common.{◌≡◌, ℕ, ◌≤◌, ◌+◌, Bool, true, List, [], ◌∷◌, Option, Some, None, refl, sym, ◌∙◌, ap, subst, arith, suc, zero, take}
use Rattle.std.specs.Prelude.{slice_get, nat_lt}
use Rattle.std.proofs.lemmas.Bool.Decides.{nat_tests}
use Rattle.std.specs.List.{All}
use Rattle.std.specs.Ordering.{nat_cmp, is_lt, ordering_reverse}
use Rattle.std.specs.declared.cmp.Ordering.{Ordering}
use Rattle.std.specs.declared.cmp.Ordering.TheVariants.{Less, Equal, Greater}
use Rattle.std.specs.BTreeMap.{insert_entry}
use Rattle.std.proofs.lemmas.List.Elements.{All-head, All-tail}
use Rattle.tx_history.specs.Keys.{Rising, place_lt, place_cmp}
use Rattle.tx_history.specs.Views.{PlacesRise}
use Rattle.tx_history.proofs.MapKeys.{Orders, ids_order, places_order}

-- what is less by the test comes before in the order
goes_before : {K : Type 0} (cmp : K → K → Ordering) (lt : K → K → Bool) (o : Orders cmp lt) (a b : K) → lt a b ≡ true → cmp b a ≡ Greater
goes_before cmp lt o a b h = o.total.antisymm b a ∙ ap ordering_reverse (by (cmp a b) refl)
  where
    by : (r : Ordering) → cmp a b ≡ r → cmp a b ≡ Less
    by Less e = e
    by Equal e = absurd (let l : is_lt (cmp a b) ≡ true = sym (o.less a b) ∙ h in cc)
    by Greater e = absurd (let l : is_lt (cmp a b) ≡ true = sym (o.less a b) ∙ h in cc)

pub get_first : {A : Type 0} (x y : A) → Some x ≡ Some y → x ≡ y
get_first {A} x y h = ap (λ (o : Option A). or_other o) h
  where
    or_other : Option A → A
    or_other None = x
    or_other (Some z) = z

-- under rising ids

rising_get : {A : Type 0} (items : List (ℕ × A)) (n m i : ℕ) (e : ℕ × A) → Rising n m items → slice_get items i ≡ Some e → n ≤ e.0
rising_get [] n m i e rise h = absurd (cc)
rising_get {A} (x ∷ xs) n m zero e rise h = let lo = rise.0 in let same : x.0 ≡ e.0 = ap (λ (y : ℕ × A). y.0) (get_first x e h) in omega arith
rising_get (x ∷ xs) n m (suc i) e rise h = let lo = rise.0 in let more = rising_get xs (x.0 + 1) m i e rise.2 h in omega arith

below : (a b : ℕ) → a + 1 ≤ b → nat_cmp b a ≡ Greater
below a b le = goes_before nat_cmp nat_lt ids_order a b (grind (arith, nat_tests))

rising_next : {A : Type 0} (items : List (ℕ × A)) (n m i : ℕ) (e : ℕ × A) → Rising n m items → slice_get items i ≡ Some e →
    insert_entry nat_cmp (take i items) e.0 e.1 ≡ take (suc i) items
rising_next [] n m i e rise h = absurd (cc)
rising_next {A} (x ∷ xs) n m zero e rise h = ap (λ (y : ℕ × A). y ∷ []) (sym (get_first x e h))
rising_next {A} (x ∷ xs) n m (suc i) e rise h =
    let up : nat_cmp e.0 x.0 ≡ Greater = below x.0 e.0 (rising_get xs (x.0 + 1) m i e rise.2 h) in
    rw up (ap (λ (l : List (ℕ × A)). x ∷ l) (rising_next xs (x.0 + 1) m i e rise.2 h))

pub rising_insert : {A : Type 0} (items : List (ℕ × A)) (n m i : ℕ) (e : ℕ × A) → Rising n m items → slice_get items i ≡ Some e →
    insert_entry nat_cmp (take i items) e.0 e.1 ≡ take (i + 1) items
rising_insert items n m i e rise h = let one : suc i ≡ i + 1 = omega arith in rising_next items n m i e rise h ∙ ap (λ (k : ℕ). take k items) one

-- under rising places

abbrev Advice : Type 0
Advice = (ℕ × ℕ) × List ℕ

all_get : (P : Advice → Type 0) (xs : List Advice) (i : ℕ) (e : Advice) → All P xs → slice_get xs i ≡ Some e → P e
all_get P [] i e all h = absurd (cc)
all_get P (x ∷ xs) zero e all h = subst P (get_first x e h) (All-head P x xs all)
all_get P (x ∷ xs) (suc i) e all h = all_get P xs i e (All-tail P x xs all) h

places_next : (items : List Advice) (n i : ℕ) (e : Advice) → PlacesRise n items → slice_get items i ≡ Some e →
    insert_entry place_cmp (take i items) e.0 e.1 ≡ take (suc i) items
places_next [] n i e rise h = absurd (cc)
places_next (x ∷ xs) n zero e rise h = ap (λ (y : Advice). y ∷ []) (sym (get_first x e h))
places_next (x ∷ xs) n (suc i) e rise h =
    let up : place_cmp e.0 x.0 ≡ Greater = goes_before place_cmp place_lt places_order x.0 e.0 (all_get (λ y. place_lt x.0 y.0 ≡ true) xs i e rise.3 h) in
    rw up (ap (λ (l : List Advice). x ∷ l) (places_next xs n i e rise.4 h))

pub places_insert : (items : List Advice) (n i : ℕ) (e : Advice) → PlacesRise n items → slice_get items i ≡ Some e →
    insert_entry place_cmp (take i items) e.0 e.1 ≡ take (i + 1) items
places_insert items n i e rise h = let one : suc i ≡ i + 1 = omega arith in places_next items n i e rise h ∙ ap (λ (k : ℕ). take k items) one
