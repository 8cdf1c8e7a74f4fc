-- Where a number is among fields whose numbers rise.
-- for: storage::index_of, storage::is_above, storage::get
use Rattle.std.proofs.Common.{◌≡◌, ℕ, zero, suc, ◌<◌, ◌≤◌, ◌-◌, List, [], ◌∷◌, ◌++◌, length, get_or, slice_get, Some, None, Result, Ok, Err, refl, sym, ap}
use Rattle.std.proofs.Common.{subst, ◌∙◌, inl, inr, arith}
use Rattle.std.specs.List.Sorted.{IsSearchInRange, IsBinarySearchResult, IsNonDecreasingBy}
use Rattle.std.specs.Ordering.{nat_cmp, ordering_index}
use Rattle.std.proofs.lemmas.Cmp.{ranked}
use Rattle.std.proofs.lemmas.Bool.{cases_eq, lt-ltb, le-ltb}
use Rattle.std.proofs.lemmas.Bool.Decides.{nat_tests}
use Rattle.iso_msg.specs.declared.field.Field.{Field}
use Rattle.iso_msg.specs.Messages.{Fields, AreFields, value_at, with_value}
use Rattle.iso_msg.specs.Values.{refusal}
use Rattle.iso_msg.specs.Storage.{pair, pairs, field_index, shift}
use Rattle.std.proofs.lemmas.List.{get_or-map, length-map}
use Rattle.std.proofs.lemmas.Option.{get_or_from_slice_get}
use Rattle.iso_msg.proofs.FieldLists.{removes_at}
use Rattle.iso_msg.proofs.Bools.{equal-eqb, eqb-false_from, some_is}

-- each number is above low
above : (low : ℕ) (fs : List Field) (i : ℕ) (d : Field) → AreFields low (pairs fs) → i < length fs → low < (get_or fs i d).number
above low [] i d a h = absurd (omega arith)
above low (f ∷ fs) zero d a h = a.0
above low (f ∷ fs) (suc i) d a h = let more = above f.number fs i d a.2 (omega arith) in omega (arith, a.0, more)

rises : (low : ℕ) (fs : List Field) (i j : ℕ) (d : Field) → AreFields low (pairs fs) → i < j → j < length fs → (get_or fs i d).number < (get_or fs j d).number
rises low [] i j d a h k = absurd (omega arith)
rises low (f ∷ fs) i zero d a h k = absurd (omega arith)
rises low (f ∷ fs) zero (suc j) d a h k = above f.number fs j d a.2 (omega arith)
rises low (f ∷ fs) (suc i) (suc j) d a h k = rises f.number fs i j d a.2 (omega arith) (omega arith)

index_at : (low : ℕ) (fs : List Field) (n i : ℕ) → AreFields low (pairs fs) → i < length fs → ((d : Field) → (get_or fs i d).number ≡ n) →
    field_index n (pairs fs) ≡ Ok i
index_at low [] n i a h e = absurd (omega arith)
index_at low (f ∷ fs) n zero a h e = rw (le-ltb f.number n (omega (arith, e f)), equal-eqb f.number n (e f)) refl
index_at low (f ∷ fs) n (suc i) a h e =
    let under : f.number < n = omega (arith, above f.number fs i f a.2 (omega arith), e f) in
    rw (lt-ltb f.number n under) (ap (shift 1) (index_at f.number fs n i a.2 (omega arith) e) ∙ ap Ok (omega arith))

index_between : (fs : List Field) (n i : ℕ) → i ≤ length fs → ((j : ℕ) (d : Field) → j < i → (get_or fs j d).number < n) →
    ((j : ℕ) (d : Field) → i ≤ j → j < length fs → n < (get_or fs j d).number)
    → field_index n (pairs fs) ≡ Err i
index_between [] n i h under over = ap Err (omega arith)
index_between (f ∷ fs) n zero h under over =
    let more : n < f.number = over 0 f (omega arith) (omega arith) in
    rw (le-ltb f.number n (omega arith), eqb-false_from f.number n (λ e. omega arith)) refl
index_between (f ∷ fs) n (suc i) h under over =
    rw (lt-ltb f.number n (under 0 f (omega arith)))
    (ap (shift 1) (index_between fs n i (omega arith) (λ j d l. under (suc j) d (omega arith)) (λ j d l m. over (suc j) d (omega arith) (omega arith)))
    ∙ ap Err (omega arith))

module _ (fs : List Field) (n : ℕ) (a : AreFields 1 (pairs fs)) where
  -- the comparisons with n rise along the fields, as a binary search asks
  comparisons_rise : IsNonDecreasingBy (λ (f : Field). ordering_index (nat_cmp f.number n)) fs
  comparisons_rise i j d le within =
      elim (cases_eq i j) [
        | inl e ↦ subst (λ k. ordering_index (nat_cmp (get_or fs i d).number n) ≤ ordering_index (nat_cmp (get_or fs k d).number n)) e (omega arith)
        | inr e ↦ let up : (get_or fs i d).number < (get_or fs j d).number = rises 1 fs i j d a (omega arith) within in grind (arith, nat_tests)
      ]

  -- a binary search by number finds the index
  pub searched : (r : Result ℕ ℕ) → IsSearchInRange r (length fs) → IsBinarySearchResult (λ (f : Field). nat_cmp f.number n) fs r
      → r ≡ field_index n (pairs fs)
  searched (Ok i) within equal = sym (index_at 1 fs n i a within (λ d. ranked _ n _ (sym (equal d))))
  searched (Err i) within parted =
      let q = parted comparisons_rise in
      sym (index_between fs n i within (λ j d l. ranked _ n _ (sym (q.0 j d (omega arith) l))) (λ j d l m. ranked _ n _ (sym (q.1 j d l m))))

-- a field goes after those with lower numbers
after_all : (fs : List Field) (n : ℕ) (v : List ℕ) → ((i : ℕ) (d : Field) → i < length fs → (get_or fs i d).number < n) →
    with_value n v (pairs fs) ≡ pairs fs ++ (n, v) ∷ []
after_all [] n v under = refl
after_all (f ∷ fs) n v under = rw (lt-ltb f.number n (under 0 f (omega arith)))
    (ap (λ (x : Fields). pair f ∷ x) (after_all fs n v (λ i d l. under (suc i) d (omega arith))))

-- the numbers of all are lower where that of the last one is
pub above_last : (fs : List Field) (n : ℕ) (f : Field) → AreFields 1 (pairs fs) → slice_get fs (length fs - 1) ≡ Some f → f.number < n → (v : List ℕ) →
    with_value n v (pairs fs) ≡ pairs fs ++ (n, v) ∷ []
above_last fs n f a last less v =
    after_all fs n v (λ i d l.
    let top : (get_or fs (length fs - 1) d).number ≡ f.number = ap (λ (x : Field). x.number) (get_or_from_slice_get fs (length fs - 1) f d last) in
    elim (cases_eq i (length fs - 1)) [
      | inl e ↦ let same : (get_or fs i d).number ≡ (get_or fs (length fs - 1) d).number = ap (λ k. (get_or fs k d).number) e in omega (arith, same, top, less)
      | inr e ↦ let up : (get_or fs i d).number < (get_or fs (length fs - 1) d).number = rises 1 fs i (length fs - 1) d a (omega arith) (omega arith) in
          omega (arith, up, top, less)
    ])

-- the value at a number fits its field
pub value_fits : (low n : ℕ) (v : List ℕ) (ps : Fields) → AreFields low ps → value_at n ps ≡ Some v → refusal n v ≡ None
value_fits low n v [] a e = absurd cc
value_fits low n v (f ∷ fs) a e =
    elim (cases_eq f.0 n) [
      | inl u ↦ let same : f.1 ≡ v = some_is f.1 v (rw (equal-eqb f.0 n u) at e) in
          subst (λ k. refusal k v ≡ None) u (subst (λ w. refusal f.0 w ≡ None) same a.1)
      | inr u ↦ value_fits f.0 n v fs a.2 (rw (eqb-false_from f.0 n u) at e)
    ]

-- the field at the index that was found has the value
pub value_found : (fs : List Field) (n i : ℕ) (f : Field) → field_index n (pairs fs) ≡ Ok i → Some (get_or fs i f).value.items ≡ value_at n (pairs fs)
value_found fs n i f e =
    let r = removes_at (pairs fs) n i e in
    let within : i < length fs = omega (arith, r.below, length-map fs pair) in
    let same : get_or (pairs fs) i (pair f) ≡ pair (get_or fs i f) = get_or-map pair fs i f (pair f) within in
    ap (λ (p : ℕ × List ℕ). Some p.1) (sym same) ∙ sym (r.value (pair f))
