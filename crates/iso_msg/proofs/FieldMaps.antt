-- Lists of fields are maps.
-- for: laws::fields_are_a_map
use Rattle.std.proofs.Common.{◌≡◌, inl, inr, ℕ, ◌<◌, ◌≤◌, false, cond, eqb, List, [], ◌∷◌, Option, Some, None, refl, sym, ap, ◌∙◌, arith}
use Rattle.std.proofs.lemmas.Bool.{cases_lt, cases_eq, lt-ltb, le-ltb}
use Rattle.iso_msg.specs.Messages.{Fields, AreFields, value_at, without, ReadsBack, KeepsOthers, TakesOut, LeavesOthers, IsDetermined}
use Rattle.iso_msg.proofs.Bools.{equal-eqb, eqb-false_from, some_is}

-- numbers that rise from above low don't come down to it
pub absent_value : (low n : ℕ) (fs : Fields) → n ≤ low → AreFields low fs → value_at n fs ≡ None
absent_value low n [] h a = refl
absent_value low n (f ∷ fs) h a = rw (eqb-false_from f.0 n (λ e. omega (arith, a.0, e))) (absent_value f.0 n fs (omega (arith, a.0)) a.2)

pub absent_stays : (low n : ℕ) (fs : Fields) → n ≤ low → AreFields low fs → without n fs ≡ fs
absent_stays low n [] h a = refl
absent_stays low n (f ∷ fs) h a = rw (eqb-false_from f.0 n (λ e. omega (arith, a.0, e)))
    (ap (λ (x : Fields). f ∷ x) (absent_stays f.0 n fs (omega (arith, a.0)) a.2))

pub reads_back : ReadsBack
reads_back n v [] = rw (equal-eqb n n refl) refl
reads_back n v (f ∷ fs) =
    elim (cases_lt f.0 n) [
      | inl w ↦ rw (lt-ltb f.0 n w, eqb-false_from f.0 n (λ e. omega (arith, w, e))) (reads_back n v fs)
      | inr w ↦
          elim (cases_eq f.0 n) [
            | inl u ↦ rw (le-ltb f.0 n w, equal-eqb f.0 n u, equal-eqb n n refl) refl
            | inr u ↦ rw (le-ltb f.0 n w, eqb-false_from f.0 n u, equal-eqb n n refl) refl
          ]
    ]

pub keeps_others : KeepsOthers
keeps_others n k v [] h = rw (eqb-false_from n k (λ e. h (sym e))) refl
keeps_others n k v (f ∷ fs) h =
    let other : eqb n k ≡ false = eqb-false_from n k (λ e. h (sym e)) in
    elim (cases_lt f.0 n) [
      | inl w ↦ rw (lt-ltb f.0 n w) (ap (λ (x : Option (List ℕ)). cond (eqb f.0 k) (Some f.1) x) (keeps_others n k v fs h))
      | inr w ↦
          elim (cases_eq f.0 n) [
            | inl u ↦ rw (le-ltb f.0 n w, equal-eqb f.0 n u, other, eqb-false_from f.0 k (λ e. h (sym e ∙ u))) refl
            | inr u ↦ rw (le-ltb f.0 n w, eqb-false_from f.0 n u, other) refl
          ]
    ]

pub takes_out : TakesOut
takes_out n low [] a = refl
takes_out n low (f ∷ fs) a =
    elim (cases_eq f.0 n) [
      | inl u ↦ rw (equal-eqb f.0 n u) (absent_value f.0 n fs (omega (arith, u)) a.2)
      | inr u ↦ let other = eqb-false_from f.0 n u in rw (other, other) (takes_out n f.0 fs a.2)
    ]

pub leaves_others : LeavesOthers
leaves_others n k [] h = refl
leaves_others n k (f ∷ fs) h =
    elim (cases_eq f.0 n) [
      | inl u ↦ rw (equal-eqb f.0 n u, eqb-false_from f.0 k (λ e. h (sym e ∙ u))) refl
      | inr u ↦ rw (eqb-false_from f.0 n u) (ap (λ (x : Option (List ℕ)). cond (eqb f.0 k) (Some f.1) x) (leaves_others n k fs h))
    ]

-- the value at the first number
first_value : (f : ℕ × List ℕ) (fs : Fields) → value_at f.0 (f ∷ fs) ≡ Some f.1
first_value f fs = rw (equal-eqb f.0 f.0 refl) refl

later_value : (f : ℕ × List ℕ) (fs : Fields) (n : ℕ) → f.0 < n → value_at n (f ∷ fs) ≡ value_at n fs
later_value f fs n h = rw (eqb-false_from f.0 n (λ e. omega (arith, h, e))) refl

some_none : (v : List ℕ) → Some v ≡ None → ⊥
some_none v e = cc

-- what comes after one number is determined by the numbers above it
after_first : (f g : ℕ × List ℕ) (fs gs : Fields) → f.0 ≡ g.0 → AreFields f.0 fs → AreFields g.0 gs → ((n : ℕ) → value_at n (f ∷ fs) ≡ value_at n (g ∷ gs))
    → (n : ℕ) → value_at n fs ≡ value_at n gs
after_first f g fs gs e a b h n =
    elim (cases_lt f.0 n) [
      | inl w ↦ sym (later_value f fs n w) ∙ h n ∙ later_value g gs n (omega (arith, w, e))
      | inr w ↦ absent_value f.0 n fs w a ∙ sym (absent_value g.0 n gs (omega (arith, w, e)) b)
    ]

pair_is : (f g : ℕ × List ℕ) → f.0 ≡ g.0 → f.1 ≡ g.1 → f ≡ g
pair_is f g e d = let p : (f.0, f.1) ≡ (g.0, g.1) = cc in p

pub determined : IsDetermined
determined low [] [] a b h = refl
determined low [] (g ∷ gs) a b h = absurd (some_none g.1 (sym (first_value g gs) ∙ sym (h g.0)))
determined low (f ∷ fs) [] a b h = absurd (some_none f.1 (sym (first_value f fs) ∙ h f.0))
determined low (f ∷ fs) (g ∷ gs) a b h =
    elim (cases_lt f.0 g.0) [
      | inl w ↦ absurd (some_none f.1 (sym (first_value f fs) ∙ h f.0 ∙ absent_value f.0 f.0 (g ∷ gs) (omega arith) (w, b.1, b.2)))
      | inr w ↦
          elim (cases_lt g.0 f.0) [
            | inl u ↦ absurd (some_none g.1 (sym (first_value g gs) ∙ sym (h g.0) ∙ absent_value g.0 g.0 (f ∷ fs) (omega arith) (u, a.1, a.2)))
            | inr u ↦
                let same : f.0 ≡ g.0 = omega (arith, w, u) in
                let value : Some f.1 ≡ Some g.1 = sym (first_value f fs) ∙ h f.0 ∙ ap (λ k. value_at k (g ∷ gs)) same ∙ first_value g gs in
                let head = pair_is f g same (some_is f.1 g.1 value) in
                let tail = determined f.0 fs gs a.2 (rw same b.2) (after_first f g fs gs same a.2 b.2 h) in
                cc
          ]
    ]
