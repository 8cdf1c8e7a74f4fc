-- Steps of writing bitmaps.
-- for: write_bitmap::push_bits, write_bitmap::push_digits (the first part is a copy of what iso_codec keeps to itself)
use Rattle.std.proofs.Common.{◌≡◌, inl, inr, true, ◌&&◌, leb, ℕ, suc, ◌<◌, ◌≤◌, ◌+◌, ◌-◌, ◌%◌, List, [], ◌∷◌, ◌++◌, length}
use Rattle.std.proofs.Common.{refl, sym, ap, ◌∙◌, append_assoc, arith}
use Rattle.std.proofs.lemmas.List.{append-nil}
use Rattle.std.proofs.lemmas.List.Folds.{list_all-append}
use Rattle.std.proofs.lemmas.Bool.{cases_lt, lt-ltb, le-ltb, le-leb, lt-leb, leb-true, eq-eqb}
use Rattle.std.specs.List.{list_all}
use Rattle.sw_base.specs.Digits.{is_digit}
use Rattle.iso_msg.proofs.Bools.{and_both, or_either}
use Rattle.iso_msg.specs.Values.{is_text}
use Rattle.iso_codec.specs.Spelling.{upper}
use Rattle.iso_codec.specs.RisingBitmaps.{digit_of, bits_of}
use Rattle.iso_dialect.specs.declared.coding.Coding.{Coding}
use Rattle.iso_dialect.specs.declared.coding.Coding.TheVariants.{Ascii, Ebcdic, Packed, Octets}
use Rattle.iso_dialect.specs.Codings.{is_upper_hex, is_writable}
use Rattle.iso_dialect.specs.Profiles.{takes_hex}

abbrev Digit : Type 0
Digit = ℕ × List ℕ

abbrev after_digit : ℕ → ℕ → Digit → List ℕ
after_digit at k x = upper x.0 ∷ bits_of (at + 4) k x.1

pub push_step : (out new : List ℕ) (at digits i d : ℕ) (rest after total : List ℕ) → i < digits → new ≡ out ++ upper d ∷ [] → let x : Digit = (d, after) in
    x ≡ digit_of at rest
    → out ++ bits_of at (digits - i) rest ≡ total → new ++ bits_of (at + 4) (digits - (i + 1)) after ≡ total
unfolding bits_of
push_step out new at digits i d rest after total h e x so_far =
    let k : digits - i ≡ suc (digits - (i + 1)) = omega arith in
    let more = bits_of (at + 4) (digits - (i + 1)) after in
    ap (λ (y : List ℕ). y ++ more) e ∙ append_assoc out (upper d ∷ []) more ∙ ap (λ (y : Digit). out ++ after_digit at (digits - (i + 1)) y) x
    ∙ sym (ap (λ m. out ++ bits_of at m rest) k) ∙ so_far

pub push_end : (out : List ℕ) (at digits i : ℕ) (rest total : List ℕ) → digits ≤ i → out ++ bits_of at (digits - i) rest ≡ total → out ≡ total
unfolding bits_of
push_end out at digits i rest total h so_far =
    let k : digits - i ≡ 0 = omega arith in
    sym (append-nil out) ∙ sym (ap (λ m. out ++ bits_of at m rest) k) ∙ so_far

-- ---- a digit of a bitmap is one in upper case

pub upper_hex : (d : ℕ) → d < 16 → is_upper_hex (upper d) ≡ true
upper_hex d h =
    elim (cases_lt d 10) [
      | inl w ↦ rw (lt-ltb d 10 w, le-leb 48 (48 + d) (omega arith), le-leb (48 + d) 57 (omega arith)) refl
      | inr w ↦ rw (
        le-ltb d 10 w,
        le-leb 48 (55 + d) (omega arith),
        lt-leb (55 + d) 57 (omega arith),
        le-leb 65 (55 + d) (omega arith),
        le-leb (55 + d) 70 (omega arith),
      ) refl
    ]

pub hex_more : (out new : List ℕ) (d : ℕ) → new ≡ out ++ upper d ∷ [] → d < 16 → list_all is_upper_hex out ≡ true → list_all is_upper_hex new ≡ true
hex_more out new d e h a =
    ap (list_all is_upper_hex) e ∙ rw (list_all-append is_upper_hex out (upper d ∷ []), a, upper_hex d h) refl

pub hex_text : (text : List ℕ) → list_all is_upper_hex text ≡ true → list_all is_text text ≡ true
hex_text [] h = refl
hex_text (c ∷ text) h =
    let p = and_both (is_upper_hex c) (list_all is_upper_hex text) h in
    elim (or_either (is_digit c) (leb 65 c && leb c 70) p.0) [
      | inl w ↦ let q = and_both (leb 48 c) (leb c 57) w in
          rw (le-leb 32 c (omega (arith, leb-true 48 c q.0)), le-leb c 126 (omega (arith, leb-true c 57 q.1))) (hex_text text p.1)
      | inr w ↦ let q = and_both (leb 65 c) (leb c 70) w in
          rw (le-leb 32 c (omega (arith, leb-true 65 c q.0)), le-leb c 126 (omega (arith, leb-true c 70 q.1))) (hex_text text p.1)
    ]

pub hex_writable : (coding : Coding) (text : List ℕ) → takes_hex coding ≡ true → length text % 2 ≡ 0 → list_all is_upper_hex text ≡ true
    → is_writable coding text ≡ true
hex_writable Ascii text t even h = refl
hex_writable (Ebcdic page) text t even h = hex_text text h
hex_writable (Packed r pad) text t even h = absurd cc
hex_writable Octets text t even h = rw (eq-eqb (length text % 2) 0 even, h) refl
