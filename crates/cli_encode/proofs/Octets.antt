-- Bytes in hexadecimal digits.
-- for: line::read_octets
use Rattle.std.proofs.Common.{◌≡◌, ◌∙◌, ◌≤◌, ◌<◌, ◌+◌, ◌-◌, ◌*◌, ◌/◌, ◌%◌, ◌&&◌, ◌||◌, ◌==◌, ◌⊎◌, inl, inr, ℕ, Bool, true, false, cond, leb, List, [], ◌∷◌}
use Rattle.std.proofs.Common.{length, take, drop, Option, Some, None, Result, Ok, Err, refl, sym, ap, subst, arith}
use Rattle.std.specs.List.{flat_map, list_all}
use Rattle.std.proofs.lemmas.Bool.{cases_lt, ltb-true, lt-ltb, le-ltb, leb-true, lt-leb}
use Rattle.iso_msg.proofs.Bools.{and_both, some_is}
use Rattle.iso_msg.specs.Values.{is_byte}
use Rattle.iso_codec.specs.Digits.{hex_value, both, octets}
use Rattle.iso_codec.specs.Spelling.{upper, hex}
use Rattle.std.proofs.Math.ListN.{drop_of_length-le}
use Rattle.std.proofs.lemmas.List.{take_all}
use Rattle.iso_msg.proofs.Bools.{eqb-false_from}
use Rattle.iso_msg.specs.declared.table.FieldForm.TheVariants.{Binary}
use Rattle.iso_codec.specs.declared.error.DecodeError.{DecodeError}
use Rattle.iso_codec.specs.declared.error.DecodeError.TheVariants.{Short, BadContent}
use Rattle.iso_codec.specs.Reads.{◌>>=◌, or_fault, part, octets_at}
use Rattle.iso_codec.proofs.Encoding.{octets_hex, hex_length}
use Rattle.cli_encode.specs.Lines.{has_byte, has_lower, AreOctetsOf, IsNoValueOf}
use Rattle.cli_encode.proofs.Cuts.{or_none}

upper_small : (d : ℕ) → d < 16 → leb 97 (upper d) ≡ false
upper_small d h =
    elim (cases_lt d 10) [
      | inl w ↦ rw (lt-ltb d 10 w) (lt-leb 97 (48 + d) (omega arith))
      | inr w ↦ rw (le-ltb d 10 w) (lt-leb 97 (55 + d) (omega arith))
    ]

pub none_lower : (v : List ℕ) → list_all is_byte v ≡ true → has_lower (flat_map hex v) ≡ false
none_lower [] h = refl
none_lower (b ∷ v) h =
    let p = and_both (is_byte b) (list_all is_byte v) h in
    let small : b < 256 = ltb-true b 256 p.0 in
    rw (upper_small (b / 16) (omega arith), upper_small (b % 16) (omega arith)) (none_lower v p.1)

-- ---- the digits of what was read

abbrev Digit : ℕ → ℕ → Type 0
Digit c d = (d < 16) × (upper d ≡ c)

-- what a digit's value is, by its range
tested : {A : Type 0} (b : Bool) (x y : Option A) (v : A) → cond b x y ≡ Some v → ((b ≡ true) × (x ≡ Some v)) ⊎ ((b ≡ false) × (y ≡ Some v))
tested true x y v e = inl (refl, e)
tested false x y v e = inr (refl, e)

digit_of : (c d : ℕ) → hex_value c ≡ Some d → leb 97 c ≡ false → Digit c d
digit_of c d e low =
    elim (tested (leb 48 c && leb c 57) (Some (c - 48)) _ d e) [
      | inl p ↦
          let r = and_both (leb 48 c) (leb c 57) p.0 in
          let a : 48 ≤ c = leb-true 48 c r.0 in
          let b : c ≤ 57 = leb-true c 57 r.1 in
          let v : c - 48 ≡ d = some_is (c - 48) d p.1 in
          let k : d < 10 = omega (arith, a, b, v) in
          let s : 48 + d ≡ c = omega (arith, a, b, v) in (omega (arith, k), rw (lt-ltb d 10 k) s)
      | inr p ↦
          elim (tested (leb 65 c && leb c 70) (Some (c - 55)) _ d p.1) [
            | inl q ↦
                let r = and_both (leb 65 c) (leb c 70) q.0 in
                let a : 65 ≤ c = leb-true 65 c r.0 in
                let b : c ≤ 70 = leb-true c 70 r.1 in
                let v : c - 55 ≡ d = some_is (c - 55) d q.1 in
                let k : 10 ≤ d = omega (arith, a, b, v) in
                let s : 55 + d ≡ c = omega (arith, a, b, v) in (omega (arith, a, b, v), rw (le-ltb d 10 k) s)
            | inr q ↦
                elim (tested (leb 97 c && leb c 102) (Some (c - 87)) None d q.1) [
                  | inl r ↦ absurd (let t = (and_both (leb 97 c) (leb c 102) r.0).0 in cc)
                  | inr r ↦ absurd cc
                ]
          ]
    ]

both_is : {A B C : Type 0} (f : A → B → C) (x : Option A) (y : Option B) (z : C) → both f x y ≡ Some z →
    (a : A) × (b : B) × (x ≡ Some a) × (y ≡ Some b) × (f a b ≡ z)
both_is f None y z e = absurd cc
both_is f (Some a) None z e = absurd cc
both_is f (Some a) (Some b) z e = (a, b, refl, refl, cc)

high : (h l : ℕ) → l < 16 → (16 * h + l) / 16 ≡ h
high h l k = omega (arith, k)

low : (h l : ℕ) → l < 16 → (16 * h + l) % 16 ≡ l
low h l k = omega (arith, k)

byte_small : (h l : ℕ) → h < 16 → l < 16 → is_byte (16 * h + l) ≡ true
byte_small h l a b = lt-ltb (16 * h + l) 256 (omega (arith, a, b))

abbrev Spelled : List ℕ → List ℕ → Type 0
Spelled text v = (flat_map hex v ≡ text) × (list_all is_byte v ≡ true)

pub hex_of_octets : (text v : List ℕ) → octets text ≡ Some v → has_lower text ≡ false → Spelled text v
unfolding octets
hex_of_octets [] v e low_ = let p : [] ≡ v = some_is [] v e in subst (λ (w : List ℕ). Spelled [] w) p (refl, refl)
hex_of_octets (c ∷ []) v e low_ = absurd cc
hex_of_octets (c ∷ d ∷ cs) v e low_ =
    let p = both_is (λ (b : ℕ) (bs : List ℕ). b ∷ bs) (both (λ h l. 16 * h + l) (hex_value c) (hex_value d)) (octets cs) v e in
    let q = both_is (λ (h l : ℕ). 16 * h + l) (hex_value c) (hex_value d) p.0 p.2 in
    let n1 = or_none (leb 97 c) (has_lower (d ∷ cs)) low_ in
    let n2 = or_none (leb 97 d) (has_lower cs) n1.1 in
    let x = digit_of c q.0 q.2 n1.0 in
    let y = digit_of d q.1 q.3 n2.0 in
    let rest = hex_of_octets cs p.1 p.3 n2.1 in
    let top : upper (p.0 / 16) ≡ c = ap (λ n. upper (n / 16)) (sym q.4) ∙ ap upper (high q.0 q.1 y.0) ∙ x.1 in
    let bottom : upper (p.0 % 16) ≡ d = ap (λ n. upper (n % 16)) (sym q.4) ∙ ap upper (low q.0 q.1 y.0) ∙ y.1 in
    let byte : is_byte p.0 ≡ true = ap is_byte (sym q.4) ∙ byte_small q.0 q.1 x.0 y.0 in
    subst (λ (w : List ℕ). Spelled (c ∷ d ∷ cs) w) p.4 (
      ap (λ a. a ∷ upper (p.0 % 16) ∷ flat_map hex p.1) top ∙ ap (λ b. c ∷ b ∷ flat_map hex p.1) bottom ∙ ap (λ (l : List ℕ). c ∷ d ∷ l) rest.0,
      ap (λ b. b && list_all is_byte p.1) byte ∙ rest.1,
    )

-- ---- sixteen digits

part_all : (text : List ℕ) → length text ≡ 16 → part 16 text ≡ Ok (text, [])
part_all text long =
    ap (λ b. cond b (Err Short) (Ok (take 16 text, drop 16 text))) (le-ltb (length text) 16 (omega (arith, long)))
    ∙ ap (λ (l : List ℕ). both_parts l (drop 16 text)) (take_all 16 text (omega (arith, long)))
    ∙ ap (λ (l : List ℕ). both_parts text l) (drop_of_length-le text {i = 16} (omega (arith, long)))
  where
    both_parts : List ℕ → List ℕ → Result (List ℕ × List ℕ) DecodeError
    both_parts a b = Ok (a, b)

abbrev ok_parts : List ℕ → List ℕ → Result (List ℕ × List ℕ) DecodeError
ok_parts a b = Ok (a, b)

abbrev valued : ℕ → Option (List ℕ) → Result (List ℕ × List ℕ) DecodeError
valued n o = or_fault o (BadContent n) >>= λ v. Ok (v, [])

octets_all : (n : ℕ) (text : List ℕ) → length text ≡ 16 → octets_at n text ≡ valued n (octets text)
unfolding octets_at
octets_all n text long = ap (λ (r : Result (List ℕ × List ℕ) DecodeError). r >>= λ t. or_fault (octets t.0) (BadContent n) >>= λ v. Ok (v, t.1))
    (part_all text long)

value_is : (n : ℕ) (o : Option (List ℕ)) (v rest : List ℕ) → valued n o ≡ Ok (v, rest) → o ≡ Some v
value_is n None v rest e = absurd cc
value_is n (Some w) v rest e = ap Some (first_is w v [] rest e)
  where
    first_is : (a b c d : List ℕ) → ok_parts a c ≡ ok_parts b d → a ≡ b
    first_is a b c d e = let p : (a, c) ≡ (b, d) = cc in ap (λ (x : List ℕ × List ℕ). x.0) p

value_not : (n : ℕ) (o : Option (List ℕ)) (f : DecodeError) → valued n o ≡ Err f → o ≡ None
value_not n None f e = refl
value_not n (Some w) f e = absurd cc

pub octets_read : (n : ℕ) (text v rest : List ℕ) → length text ≡ 16 → has_lower text ≡ false → octets_at n text ≡ Ok (v, rest) → AreOctetsOf text v
octets_read n text v rest long low_ e =
    let all = hex_of_octets text v (value_is n (octets text) v rest (sym (octets_all n text long) ∙ e)) low_ in
    let two : length (flat_map hex v) ≡ 2 * length v = hex_length v in
    let same : length (flat_map hex v) ≡ length text = ap length all.0 in
    let eight : length v ≡ 8 = omega (arith, two, same, long) in (all.0, (eight, all.1))

pub not_sixteen : (text : List ℕ) → (length text ≡ 16 → ⊥) → IsNoValueOf (Some Binary) text
not_sixteen text other v fits e =
    let two : length (flat_map hex v) ≡ 2 * length v = hex_length v in
    let same : length (flat_map hex v) ≡ length text = ap length e in
    let eight : length v ≡ 8 = fits.0 in
    let all : length text ≡ 16 = omega (arith, two, same, eight) in other all

pub lower_case : (text : List ℕ) → has_lower text ≡ true → IsNoValueOf (Some Binary) text
lower_case text low_ v fits e = absurd (let k : has_lower text ≡ false = ap has_lower (sym e) ∙ none_lower v fits.1 in cc)

pub no_octets : (n : ℕ) (text : List ℕ) (f : DecodeError) → length text ≡ 16 → octets_at n text ≡ Err f → IsNoValueOf (Some Binary) text
no_octets n text f long e v fits k = absurd (
    let some : octets text ≡ Some v = ap octets (sym k) ∙ octets_hex v fits.1 in
    let none : octets text ≡ None = value_not n (octets text) f (sym (octets_all n text long) ∙ e) in cc)

-- ---- one value has the digits

pub hex_once : (v w : List ℕ) → list_all is_byte v ≡ true → list_all is_byte w ≡ true → flat_map hex v ≡ flat_map hex w → v ≡ w
hex_once v w a b e = some_is v w (sym (octets_hex v a) ∙ ap octets e ∙ octets_hex w b)

byte_free : (d : ℕ) → d < 16 → (upper d == 10) ≡ false
byte_free d h =
    elim (cases_lt d 10) [
      | inl w ↦ rw (lt-ltb d 10 w) (eqb-false_from (48 + d) 10 (λ e. omega (arith, e)))
      | inr w ↦ rw (le-ltb d 10 w) (eqb-false_from (55 + d) 10 (λ e. omega (arith, e)))
    ]

pub none_in_hex : (v : List ℕ) → list_all is_byte v ≡ true → has_byte 10 (flat_map hex v) ≡ false
none_in_hex [] h = refl
none_in_hex (b ∷ v) h =
    let p = and_both (is_byte b) (list_all is_byte v) h in
    let small : b < 256 = ltb-true b 256 p.0 in
    ap (λ t. t || ((upper (b % 16) == 10) || has_byte 10 (flat_map hex v))) (byte_free (b / 16) (omega (arith, small)))
    ∙ ap (λ t. t || has_byte 10 (flat_map hex v)) (byte_free (b % 16) (omega arith)) ∙ none_in_hex v p.1
