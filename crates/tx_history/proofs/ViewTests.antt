-- What the tests of a view say of it.
-- for: journal::JournalView::ok
use Rattle.std.proofs.Common.{◌≡◌, ℕ, ◌+◌, ◌<◌, ◌≤◌, Bool, true, false, List, [], ◌∷◌, length, Option, Some, None, refl, ◌∙◌, ap, arith, subst}
use Rattle.std.specs.Prelude.{if◌then◌else◌, ◌==◌, ◌&&◌, nat_le, nat_lt, not, is_some}
use Rattle.std.specs.List.{All}
use Rattle.std.proofs.lemmas.Bool.Decides.{nat_tests}
use Rattle.std.proofs.lemmas.Bool.{and_parts}
use Rattle.std.proofs.lemmas.List.Elements.{All-nil, All-cons, All-head}
use Rattle.tx_history.specs.declared.journal.Row.{Row}
use Rattle.tx_history.specs.declared.journal.WaitingContext.{WaitingContext}
use Rattle.tx_history.specs.Keys.{Rising, look, place_lt}
use Rattle.tx_history.specs.declared.journal.JournalView.{JournalView}
use Rattle.tx_history.specs.Checks.{are_apart, follows, numbers_fit, place_fits, places_rise, rises}
use Rattle.tx_history.specs.Views.{AllUnder, IsOk, PlacesRise, RowFits, WaitingFits}
use Rattle.tx_history.proofs.RisingKeys.{look_within}
use Rattle.tx_history.proofs.AdvicePlaces.{all_imp, place_trans}

pub rises_rising : {A : Type 0} (n m : ℕ) (xs : List (ℕ × A)) → rises n m xs ≡ true → Rising n m xs
rises_rising n m [] h = grind (arith, nat_tests)
rises_rising n m (x ∷ xs) h =
    let outer = and_parts (nat_le n x.0 && nat_lt x.0 m) (rises (x.0 + 1) m xs) h in
    let inner = and_parts (nat_le n x.0) (nat_lt x.0 m) outer.0 in
    let from = inner.0 in
    let below = inner.1 in
    (grind (arith, nat_tests), grind (arith, nat_tests), rises_rising (x.0 + 1) m xs outer.1)

pub rising_rises : {A : Type 0} (n m : ℕ) (xs : List (ℕ × A)) → Rising n m xs → rises n m xs ≡ true
rising_rises n m [] h = grind (arith, nat_tests)
rising_rises n m (x ∷ xs) h =
    let from : n ≤ x.0 = h.0 in
    let below : x.0 < m = h.1 in
    let a : nat_le n x.0 ≡ true = grind (arith, nat_tests) in
    let b : nat_lt x.0 m ≡ true = grind (arith, nat_tests) in
    rw (a, b) (rising_rises (x.0 + 1) m xs h.2)

-- what is found in a list of which all holds
pub found_fits : {A : Type 0} (P : A → Type 0) (xs : List (ℕ × A)) → AllUnder P xs → (id : ℕ) (x : A) → look id xs ≡ Some x → P x
found_fits P [] all id x h = absurd (cc)
found_fits {A = A} P (y ∷ xs) all id x h = by (y.0 == id) h (found_fits P xs all.1 id x)
  where
    by : (b : Bool) → (if b then Some y.1 else look id xs) ≡ Some x → (look id xs ≡ Some x → P x) → P x
    by true h ih = let same : y.1 ≡ x = grind (arith) in subst P same all.0
    by false h ih = ih h

-- if keys rise, everything in the list is found
pub found_all : {A : Type 0} (P : A → Type 0) (n m : ℕ) (xs : List (ℕ × A)) → Rising n m xs → ((id : ℕ) (x : A) → look id xs ≡ Some x → P x) → AllUnder P xs
found_all {A = A} P n m [] rising found = tt
found_all {A = A} P n m (y ∷ xs) rising found =
    let here : y.0 == y.0 ≡ true = grind (arith, nat_tests) in
    (found y.0 y.1 (ap (λ (b : Bool). if b then Some y.1 else look y.0 xs) here), found_all P (y.0 + 1) m xs rising.2 later)
  where
    later : (id : ℕ) (x : A) → look id xs ≡ Some x → P x
    later id x h =
        let above : y.0 + 1 ≤ id = (look_within xs (y.0 + 1) m id x rising.2 h).0 in
        let other : y.0 == id ≡ false = grind (arith, nat_tests) in
        found id x (ap (λ (b : Bool). if b then Some y.1 else look id xs) other ∙ h)

-- no id in both
found_apart : (rows : List (ℕ × Row)) (shelf : List (ℕ × WaitingContext)) → are_apart rows shelf ≡ true → (id : ℕ) (r : Row) → look id rows ≡ Some r →
    not (is_some (look id shelf)) ≡ true
found_apart [] shelf h id r there = absurd (cc)
found_apart (x ∷ rows) shelf h id r there =
    let w = and_parts (not (is_some (look x.0 shelf))) (are_apart rows shelf) h in
    by (x.0 == id) refl there w.0 (found_apart rows shelf w.1 id r)
  where
    by : (b : Bool) → x.0 == id ≡ b → (if b then Some x.1 else look id rows) ≡ Some r → not (is_some (look x.0 shelf)) ≡ true
        → (look id rows ≡ Some r → not (is_some (look id shelf)) ≡ true) → not (is_some (look id shelf)) ≡ true
    by true e there here ih = let same : x.0 ≡ id = grind (arith, nat_tests) in subst (λ k. not (is_some (look k shelf)) ≡ true) same here
    by false e there here ih = ih there

pub apart_tested : (rows : List (ℕ × Row)) (shelf : List (ℕ × WaitingContext)) → are_apart rows shelf ≡ true → (id : ℕ) (r : Row) (w : WaitingContext) →
    look id rows ≡ Some r → look id shelf ≡ Some w → ⊥
apart_tested rows shelf h id r w there other =
    let free = found_apart rows shelf h id r there in
    let taken : not (is_some (look id shelf)) ≡ false = ap (λ o. not (is_some o)) other in
    absurd (cc)

not_found : (shelf : List (ℕ × WaitingContext)) (id : ℕ) (o : Option WaitingContext) → look id shelf ≡ o → ((w : WaitingContext) → look id shelf ≡ Some w → ⊥) →
    not (is_some o) ≡ true
not_found shelf id None e none = refl
not_found shelf id (Some w) e none = absurd (none w e)

pub apart_tests : (n m : ℕ) (rows : List (ℕ × Row)) (shelf : List (ℕ × WaitingContext)) → Rising n m rows →
    ((id : ℕ) (r : Row) (w : WaitingContext) → look id rows ≡ Some r → look id shelf ≡ Some w → ⊥) → are_apart rows shelf ≡ true
apart_tests n m [] shelf rising apart = refl
apart_tests n m (x ∷ rows) shelf rising apart =
    let here : x.0 == x.0 ≡ true = grind (arith, nat_tests) in
    let free : not (is_some (look x.0 shelf)) ≡ true = not_found shelf x.0 (look x.0 shelf) refl
    (λ w h. apart x.0 x.1 w (ap (λ (b : Bool). if b then Some x.1 else look x.0 rows) here) h) in
    rw free (apart_tests (x.0 + 1) m rows shelf rising.2 later)
  where
    later : (id : ℕ) (r : Row) (w : WaitingContext) → look id rows ≡ Some r → look id shelf ≡ Some w → ⊥
    later id r w h k =
        let above : x.0 + 1 ≤ id = (look_within rows (x.0 + 1) m id r rising.2 h).0 in
        let other : x.0 == id ≡ false = grind (arith, nat_tests) in
        apart id r w (ap (λ (b : Bool). if b then Some x.1 else look id rows) other ∙ h) k

-- the places of advices
abbrev Advice : Type 0
Advice = (ℕ × ℕ) × List ℕ

abbrev Above : Option (ℕ × ℕ) → List Advice → Type 0
Above None xs = Unit {0}
Above (Some before) xs = All (λ (y : Advice). place_lt before y.0 ≡ true) xs

above_tail : (before : Option (ℕ × ℕ)) (x : Advice) (xs : List Advice) → follows before x.0 ≡ true → All (λ (y : Advice). place_lt x.0 y.0 ≡ true) xs →
    Above before (x ∷ xs)
above_tail None x xs h all = tt
above_tail (Some before) x xs h all =
    All-cons (λ (y : Advice). place_lt before y.0 ≡ true) x xs h
    (all_imp (λ (y : Advice). place_lt x.0 y.0 ≡ true) (λ (y : Advice). place_lt before y.0 ≡ true) xs (λ y l. place_trans before x.0 y.0 h l) all)

pub record IsRisen (before : Option (ℕ × ℕ)) (n : ℕ) (xs : List Advice) : Type 0 where
  pub rise : PlacesRise n xs
  pub above : Above before xs

above_nil : (before : Option (ℕ × ℕ)) → Above before []
above_nil None = tt
above_nil (Some before) = All-nil (λ (y : Advice). place_lt before y.0 ≡ true)

pub places_tested : (before : Option (ℕ × ℕ)) (n : ℕ) (xs : List Advice) → places_rise before n xs ≡ true → IsRisen before n xs
places_tested before n [] h = record { rise = tt; above = above_nil before }
places_tested before n (x ∷ xs) h =
    let outer = and_parts (follows before x.0 && place_fits n x.0) (places_rise (Some x.0) n xs) h in
    let inner = and_parts (follows before x.0) (place_fits n x.0) outer.0 in
    let fit = and_parts (nat_le 1 x.0.0 && nat_lt x.0.0 n) (nat_le x.0.1 1000) inner.1 in
    let id = and_parts (nat_le 1 x.0.0) (nat_lt x.0.0 n) fit.0 in
    let later = places_tested (Some x.0) n xs outer.1 in
    let a = id.0 in let b = id.1 in let d = fit.1 in
    record {
      rise = (grind (arith, nat_tests), grind (arith, nat_tests), grind (arith, nat_tests), later.above, later.rise);
      above = above_tail before x xs inner.0 later.above;
    }

pub places_test : (before : Option (ℕ × ℕ)) (n : ℕ) (xs : List Advice) → PlacesRise n xs → Above before xs → places_rise before n xs ≡ true
places_test before n [] rise above = refl
places_test before n (x ∷ xs) rise above =
    let a : 1 ≤ x.0.0 = rise.0 in let b : x.0.0 < n = rise.1 in let d : x.0.1 ≤ 1000 = rise.2 in
    let from : nat_le 1 x.0.0 ≡ true = grind (arith, nat_tests) in
    let below : nat_lt x.0.0 n ≡ true = grind (arith, nat_tests) in
    let most : nat_le x.0.1 1000 ≡ true = grind (arith, nat_tests) in
    let next : follows before x.0 ≡ true = first before above in
    rw (next, from, below, most) (places_test (Some x.0) n xs rise.4 rise.3)
  where
    first : (o : Option (ℕ × ℕ)) → Above o (x ∷ xs) → follows o x.0 ≡ true
    first None h = refl
    first (Some k) h = All-head (λ (y : Advice). place_lt k y.0 ≡ true) x xs h

-- the least id is at most the next one
rising_least : {A : Type 0} (n m : ℕ) (xs : List (ℕ × A)) → Rising n m xs → n ≤ m
rising_least n m [] h = h
rising_least n m (x ∷ xs) h = let a : n ≤ x.0 = h.0 in let b : x.0 < m = h.1 in omega arith

pub ok_tested : (v : JournalView) → numbers_fit v ≡ true → AllUnder RowFits v.rows → AllUnder WaitingFits v.shelf → IsOk v
ok_tested v h rows shelf =
    let all = and_parts (nat_le v.next_id 9223372036854775807 && nat_le (length v.rows) 16)
    (((rises 1 v.next_id v.rows && rises 1 v.next_id v.shelf) && are_apart v.rows v.shelf) && places_rise None v.next_id v.advices) h in
    let bounds = and_parts (nat_le v.next_id 9223372036854775807) (nat_le (length v.rows) 16) all.0 in
    let lists = and_parts ((rises 1 v.next_id v.rows && rises 1 v.next_id v.shelf) && are_apart v.rows v.shelf) (places_rise None v.next_id v.advices) all.1 in
    let keys = and_parts (rises 1 v.next_id v.rows && rises 1 v.next_id v.shelf) (are_apart v.rows v.shelf) lists.0 in
    let rise = and_parts (rises 1 v.next_id v.rows) (rises 1 v.next_id v.shelf) keys.0 in
    let last = bounds.0 in
    let few = bounds.1 in
    record {
      ordered = record {
        next = rising_least 1 v.next_id v.rows (rises_rising 1 v.next_id v.rows rise.0);
        rows = rises_rising 1 v.next_id v.rows rise.0;
        shelf = rises_rising 1 v.next_id v.shelf rise.1;
        apart = apart_tested v.rows v.shelf keys.1;
      };
      last = grind (arith, nat_tests);
      few = grind (arith, nat_tests);
      rows = found_fits RowFits v.rows rows;
      shelf = found_fits WaitingFits v.shelf shelf;
      advices = (places_tested None v.next_id v.advices lists.1).rise;
    }

pub ok_numbers : (v : JournalView) → IsOk v → numbers_fit v ≡ true
ok_numbers v h =
    let a : v.next_id ≤ 9223372036854775807 = h.last in
    let b : length v.rows ≤ 16 = h.few in
    let last : nat_le v.next_id 9223372036854775807 ≡ true = grind (arith, nat_tests) in
    let few : nat_le (length v.rows) 16 ≡ true = grind (arith, nat_tests) in
    let rows = rising_rises 1 v.next_id v.rows h.ordered.rows in
    let shelf = rising_rises 1 v.next_id v.shelf h.ordered.shelf in
    let apart = apart_tests 1 v.next_id v.rows v.shelf h.ordered.rows h.ordered.apart in
    rw (last, few, rows, shelf, apart) (places_test None v.next_id v.advices h.advices tt)

pub ok_rows : (v : JournalView) → IsOk v → AllUnder RowFits v.rows
ok_rows v h = found_all RowFits 1 v.next_id v.rows h.ordered.rows h.rows

pub ok_shelf : (v : JournalView) → IsOk v → AllUnder WaitingFits v.shelf
ok_shelf v h = found_all WaitingFits 1 v.next_id v.shelf h.ordered.shelf h.shelf
