-- The digits of a number that are written.
-- for: write_field::push_decimals, WrittenFields
use Rattle.std.proofs.Common.{◌≡◌, ◌∙◌, inl, inr, ◌⊎◌, ℕ, zero, suc, ◌+◌, ◌-◌, ◌/◌, ◌%◌, ◌^◌, ◌<◌, ◌≤◌, true, ◌&&◌, leb, List, [], ◌∷◌, length, take, Some}
use Rattle.std.proofs.Common.{refl, sym, ap, subst, arith}
use Rattle.std.specs.List.{list_all}
use Rattle.std.proofs.lemmas.Bool.{le-leb, leb-true}
use Rattle.iso_msg.proofs.Bools.{and_both}
use Rattle.iso_msg.specs.Values.{is_text}
use Rattle.sw_base.specs.Digits.{is_digit, number_of}
use Rattle.iso_dialect.specs.declared.coding.Coding.{Coding}
use Rattle.iso_dialect.specs.declared.coding.Coding.TheVariants.{Ascii, Ebcdic, Packed, Octets}
use Rattle.iso_dialect.specs.declared.row.Count.TheVariants.{Digits}
use Rattle.iso_dialect.specs.declared.row.Size.TheVariants.{Counted}
use Rattle.iso_dialect.specs.Codings.{is_packed, is_writable}
use Rattle.iso_dialect.specs.Profiles.{is_count, is_pad, takes_digits}
use Rattle.iso_dialect.specs.Writings.{decimals}

-- ---- digits can be written

pub digit_text : (text : List ℕ) → list_all is_digit text ≡ true → list_all is_text text ≡ true
digit_text [] h = refl
digit_text (c ∷ text) h =
    let p = and_both (is_digit c) (list_all is_digit text) h in
    let q = and_both (leb 48 c) (leb c 57) p.0 in
    let low : 48 ≤ c = leb-true 48 c q.0 in
    let high : c ≤ 57 = leb-true c 57 q.1 in
    rw (le-leb 32 c (omega arith), le-leb c 126 (omega arith)) (digit_text text p.1)

digit_packed : (text : List ℕ) → list_all is_digit text ≡ true → list_all is_packed text ≡ true
digit_packed [] h = refl
digit_packed (c ∷ text) h =
    let p = and_both (is_digit c) (list_all is_digit text) h in
    rw p.0 (digit_packed text p.1)

pub digits_writable : (coding : Coding) (text : List ℕ) → takes_digits coding ≡ true → is_pad coding ≡ true → list_all is_digit text ≡ true
    → is_writable coding text ≡ true
digits_writable Ascii text t p h = refl
digits_writable (Ebcdic page) text t p h = digit_text text h
digits_writable (Packed r pad) text t p h = rw p (digit_packed text h)
digits_writable Octets text t p h = absurd cc

-- ---- the digits of a number

digit_ok : (d : ℕ) → d < 10 → (leb 48 (48 + d) && leb (48 + d) 57) ≡ true
digit_ok d h = rw (le-leb 48 (48 + d) (omega arith), le-leb (48 + d) 57 (omega arith)) refl

pub record Decimals (digits n : ℕ) (text : List ℕ) : Type 0 where
  pub all : list_all is_digit text ≡ true
  pub len : length text ≡ digits
  pub whole : take (4 - (4 - digits)) text ≡ text
  pub number : n < 10 ^ digits → number_of text ≡ Some n

one_to_four : (d : ℕ) → 1 ≤ d → d ≤ 4 → (d ≡ 1) ⊎ ((d ≡ 2) ⊎ ((d ≡ 3) ⊎ (d ≡ 4)))
one_to_four zero a b = absurd (omega arith)
one_to_four (suc zero) a b = inl refl
one_to_four (suc (suc zero)) a b = inr (inl refl)
one_to_four (suc (suc (suc zero))) a b = inr (inr (inl refl))
one_to_four (suc (suc (suc (suc zero)))) a b = inr (inr (inr refl))
one_to_four (suc (suc (suc (suc (suc d))))) a b = absurd (omega arith)

module _ (n : ℕ) where
  a : (leb 48 (48 + n / 1000 % 10) && leb (48 + n / 1000 % 10) 57) ≡ true
  a = digit_ok (n / 1000 % 10) (omega arith)

  b : (leb 48 (48 + n / 100 % 10) && leb (48 + n / 100 % 10) 57) ≡ true
  b = digit_ok (n / 100 % 10) (omega arith)

  c : (leb 48 (48 + n / 10 % 10) && leb (48 + n / 10 % 10) 57) ≡ true
  c = digit_ok (n / 10 % 10) (omega arith)

  d : (leb 48 (48 + n % 10) && leb (48 + n % 10) 57) ≡ true
  d = digit_ok (n % 10) (omega arith)

  one : Decimals 1 n (decimals 1 n)
  one = record { all = rw d refl; len = refl; whole = refl; number = λ h. rw d (ap Some (omega arith)) }

  two : Decimals 2 n (decimals 2 n)
  two = record { all = rw (c, d) refl; len = refl; whole = refl; number = λ h. rw (c, d) (ap Some (omega arith)) }

  three : Decimals 3 n (decimals 3 n)
  three = record { all = rw (b, c, d) refl; len = refl; whole = refl; number = λ h. rw (b, c, d) (ap Some (omega arith)) }

  four : Decimals 4 n (decimals 4 n)
  four = record { all = rw (a, b, c, d) refl; len = refl; whole = refl; number = λ h. rw (a, b, c, d) (ap Some (omega arith)) }

pub decimals_are : (digits n : ℕ) → 1 ≤ digits → digits ≤ 4 → Decimals digits n (decimals digits n)
decimals_are digits n low high =
    elim (one_to_four digits low high) [
      | inl e ↦ subst (λ k. Decimals k n (decimals k n)) (sym e) (one n)
      | inr w ↦ elim w [
        | inl e ↦ subst (λ k. Decimals k n (decimals k n)) (sym e) (two n)
        | inr v ↦ elim v [
          | inl e ↦ subst (λ k. Decimals k n (decimals k n)) (sym e) (three n)
          | inr e ↦ subst (λ k. Decimals k n (decimals k n)) (sym e) (four n)
        ]
      ]
    ]

pub record Countable (coding : Coding) (digits : ℕ) : Type 0 where
  pub takes : takes_digits coding ≡ true
  pub low : 1 ≤ digits
  pub high : digits ≤ 4

pub countable : (coding : Coding) (digits most : ℕ) → is_count (Counted (Digits coding digits) most) ≡ true → Countable coding digits
countable coding digits most h =
    let p = and_both (takes_digits coding) (leb 1 digits && leb digits 4) h in
    let q = and_both (leb 1 digits) (leb digits 4) p.1 in
    record { takes = p.0; low = leb-true 1 digits q.0; high = leb-true digits 4 q.1 }

-- the digits that are taken from four can be written
pub decimals_writable : (coding : Coding) (digits n : ℕ) → is_count (Counted (Digits coding digits) 0) ≡ true → is_pad coding ≡ true
    → is_writable coding (take (4 - (4 - digits)) (decimals digits n)) ≡ true
decimals_writable coding digits n h p =
    let k = countable coding digits 0 h in
    let d = decimals_are digits n k.low k.high in
    ap (is_writable coding) d.whole ∙ digits_writable coding (decimals digits n) k.takes p d.all
