-- Halves of bytes that are packed come out again.
-- for: laws::codings_are_exact
use Rattle.std.proofs.Common.{◌≡◌, ◌∙◌, inl, inr, ℕ, zero, suc, ◌+◌, ◌-◌, ◌*◌, ◌/◌, ◌%◌, ◌<◌, ◌≤◌, Bool, true, false, ◌&&◌, eqb, leb, List, [], ◌∷◌}
use Rattle.std.proofs.Common.{◌++◌, length, Some, get_or, refl, sym, ap, arith}
use Rattle.std.specs.Prelude.{map}
use Rattle.std.specs.List.{flat_map, list_all}
use Rattle.std.proofs.lemmas.Bool.{eqb-true, eqb-false, leb-true, lt-ltb, le-ltb}
use Rattle.std.proofs.lemmas.List.{length-append, take_at}
use Rattle.sw_base.specs.Digits.{is_digit}
use Rattle.iso_msg.proofs.Bools.{and_both, or_either, equal-eqb}
use Rattle.iso_codec.specs.Spelling.{upper, hex}
use Rattle.iso_dialect.specs.Codings.{each, halves, char_of, half_of, unpadded, padded, packed, hex_half, is_packed, is_upper_hex}

abbrev pub Small : List ℕ → Type 0
Small [] = Unit {0}
Small (d ∷ ds) = (d < 16) × Small ds

pub halves_packed : (ds : List ℕ) → length ds % 2 ≡ 0 → Small ds → flat_map halves (packed ds) ≡ ds
halves_packed [] h s = refl
halves_packed (d ∷ []) h s = absurd cc
halves_packed (d ∷ e ∷ ds) h s =
    let high : (16 * d + e) / 16 ≡ d = omega (arith, s.1.0) in
    let low : (16 * d + e) % 16 ≡ e = omega (arith, s.1.0) in
    rw (high, low, halves_packed ds (omega (arith, h)) s.1.1) refl

pub packed_length : (ds : List ℕ) → length ds % 2 ≡ 0 → 2 * length (packed ds) ≡ length ds
packed_length [] h = refl
packed_length (d ∷ []) h = absurd cc
packed_length (d ∷ e ∷ ds) h = omega (arith, packed_length ds (omega (arith, h)))

-- ---- the pad

last_at : (ds : List ℕ) (x : ℕ) → get_or (ds ++ x ∷ []) (length ds) 0 ≡ x
last_at [] x = refl
last_at (d ∷ ds) x = last_at ds x

pub unpadded_padded : (on_right : Bool) (pad : ℕ) (ds : List ℕ) → unpadded on_right pad (length ds) (padded on_right pad ds) ≡ Some ds
unpadded_padded on_right pad ds = by on_right (eqb (length ds % 2) 0) refl
  where
    by : (r b : Bool) → eqb (length ds % 2) 0 ≡ b → unpadded r pad (length ds) (padded r pad ds) ≡ Some ds
    by r true e = rw e refl
    by true false e = rw (e, last_at ds pad, equal-eqb pad pad refl, take_at ds (pad ∷ []) (length ds) refl) refl
    by false false e = rw (e, equal-eqb pad pad refl) refl

odd_is : (n : ℕ) → eqb (n % 2) 0 ≡ false → (n + 1) % 2 ≡ 0
odd_is n e = by (n % 2) refl
  where
    by : (r : ℕ) → n % 2 ≡ r → (n + 1) % 2 ≡ 0
    by zero h = absurd (eqb-false (n % 2) 0 e h)
    by (suc r) h = omega (arith, h)

abbrev Padded : Bool → ℕ → List ℕ → Type 0
Padded r pad ds =
    (length (padded r pad ds) % 2 ≡ 0) × (Small ds → pad < 16 → Small (padded r pad ds))
    × (length (padded r pad ds) ≡ 2 * ((length ds + 1) / 2))

small_end : (ds : List ℕ) (x : ℕ) → Small ds → x < 16 → Small (ds ++ x ∷ [])
small_end [] x s h = (h, tt)
small_end (d ∷ ds) x s h = (s.0, small_end ds x s.1 h)

pub padded_is : (r : Bool) (pad : ℕ) (ds : List ℕ) → Padded r pad ds
padded_is r pad ds = by r (eqb (length ds % 2) 0) refl
  where
    by : (r b : Bool) → eqb (length ds % 2) 0 ≡ b → Padded r pad ds
    by r true e =
        let even : length ds % 2 ≡ 0 = eqb-true (length ds % 2) 0 e in
        rw e (even, λ s h. s, omega (arith, even))
    by true false e =
        let odd : (length ds + 1) % 2 ≡ 0 = odd_is (length ds) e in
        let len : length (ds ++ pad ∷ []) ≡ length ds + 1 = length-append ds (pad ∷ []) in
        rw e (ap (λ (n : ℕ). n % 2) len ∙ odd, λ s h. small_end ds pad s h, omega (arith, odd, len))
    by false false e =
        let odd : (length ds + 1) % 2 ≡ 0 = odd_is (length ds) e in
        rw e (omega (arith, odd), λ s h. (h, s), omega (arith, odd))

-- ---- characters

clash : (b : Bool) → b ≡ true → b ≡ false → ⊥
clash true h e = cc
clash false h e = cc

pub digit_back : (c : ℕ) → is_packed c ≡ true → (half_of c < 16) × (char_of (half_of c) ≡ Some c)
digit_back c h = by (eqb c 61) refl
  where
    by : (b : Bool) → eqb c 61 ≡ b → (half_of c < 16) × (char_of (half_of c) ≡ Some c)
    by true e = rw e (omega arith, ap Some (sym (eqb-true c 61 e)))
    by false e =
        elim (or_either (is_digit c) (eqb c 61) h) [
          | inl w ↦ let p = and_both (leb 48 c) (leb c 57) w in
              let low : 48 ≤ c = leb-true 48 c p.0 in
              let high : c ≤ 57 = leb-true c 57 p.1 in
              rw (e, lt-ltb (c - 48) 10 (omega (arith, low, high))) (omega (arith, low, high), ap Some (omega (arith, low)))
          | inr w ↦ absurd (clash (eqb c 61) w e)
        ]

pub digits_back : (text : List ℕ) → list_all is_packed text ≡ true → Small (map half_of text) × (each char_of (map half_of text) ≡ Some text)
digits_back [] h = (tt, refl)
digits_back (c ∷ text) h =
    let p = and_both (is_packed c) (list_all is_packed text) h in
    let d = digit_back c p.0 in
    let r = digits_back text p.1 in
    ((d.0, r.0), rw (d.1, r.1) refl)

pub hex_back : (c : ℕ) → is_upper_hex c ≡ true → (hex_half c < 16) × (upper (hex_half c) ≡ c)
hex_back c h =
    elim (or_either (is_digit c) (leb 65 c && leb c 70) h) [
      | inl w ↦ let p = and_both (leb 48 c) (leb c 57) w in
          let low : 48 ≤ c = leb-true 48 c p.0 in
          let high : c ≤ 57 = leb-true c 57 p.1 in
          rw (lt-ltb c 58 (omega (arith, high)), lt-ltb (c - 48) 10 (omega (arith, low, high))) (omega (arith, low, high), omega (arith, low))
      | inr w ↦ let p = and_both (leb 65 c) (leb c 70) w in
          let low : 65 ≤ c = leb-true 65 c p.0 in
          let high : c ≤ 70 = leb-true c 70 p.1 in
          rw (le-ltb c 58 (omega (arith, low)), le-ltb (c - 55) 10 (omega (arith, low))) (omega (arith, low, high), omega (arith, low))
    ]

pub octets_back : (text : List ℕ) → length text % 2 ≡ 0 → list_all is_upper_hex text ≡ true → flat_map hex (packed (map hex_half text)) ≡ text
octets_back [] h s = refl
octets_back (c ∷ []) h s = absurd cc
octets_back (c ∷ d ∷ text) h s =
    let p = and_both (is_upper_hex c) (list_all is_upper_hex (d ∷ text)) s in
    let q = and_both (is_upper_hex d) (list_all is_upper_hex text) p.1 in
    let x = hex_back c p.0 in
    let y = hex_back d q.0 in
    let high : (16 * hex_half c + hex_half d) / 16 ≡ hex_half c = omega (arith, y.0) in
    let low : (16 * hex_half c + hex_half d) % 16 ≡ hex_half d = omega (arith, y.0) in
    rw (high, low, x.1, y.1, octets_back text (omega (arith, h)) q.1) refl
