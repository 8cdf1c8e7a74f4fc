-- The bitmaps that are written are those of the numbers.
-- for: WrittenMessages (the first part is a copy of what iso_codec keeps to itself)
use Rattle.std.proofs.Common.{◌≡◌, ◌∙◌, inl, inr, ℕ, zero, suc, ◌+◌, ◌*◌, ◌%◌, ◌<◌, ◌≤◌, Bool, true, false, ◌||◌, cond, eqb, ltb, List, [], ◌∷◌}
use Rattle.std.proofs.Common.{◌++◌, length, take, drop, Some, refl, sym, ap, subst, append_assoc, arith}
use Rattle.std.specs.Prelude.{map}
use Rattle.std.specs.List.{list_all, list_any}
use Rattle.std.proofs.lemmas.Bool.{cases_lt, eqb-true, eqb-false, ltb-false, lt-ltb, le-ltb, le-leb, lt-leb}
use Rattle.std.proofs.lemmas.List.{length-take, length-drop, take-append-drop}
use Rattle.std.proofs.lemmas.List.Folds.{list_all-append}
use Rattle.iso_msg.proofs.Bools.{and_both}
use Rattle.iso_msg.proofs.FieldLists.{taken_below}
use Rattle.iso_msg.specs.Table.{form_of}
use Rattle.iso_msg.specs.Messages.{AreFields, Fields, numbers_of}
use Rattle.iso_codec.specs.Digits.{bit, bits_at, hex_value, nibble}
use Rattle.iso_codec.specs.Spelling.{upper}
use Rattle.iso_codec.specs.RisingBitmaps.{bit_of, bitmaps_of, bits_of, digit_of}
use Rattle.iso_codec.proofs.Encoding.{bits_length}
use Rattle.iso_dialect.specs.declared.coding.Coding.{Coding}
use Rattle.iso_dialect.specs.declared.coding.Coding.TheVariants.{Ascii, Ebcdic, Packed, Octets}
use Rattle.iso_dialect.specs.Pages.{code_in}
use Rattle.iso_dialect.specs.Codings.{coded, hex_half, is_upper_hex, packed}
use Rattle.iso_dialect.specs.Profiles.{takes_hex}
use Rattle.iso_dialect.specs.Messages.{AreNumbers}
use Rattle.iso_dialect.proofs.BitNumbers.{Between}
use Rattle.iso_dialect.proofs.BitmapWrites.{hex_writable, upper_hex}
use Rattle.iso_dialect.proofs.Written.{reads_back}

-- ---- digits

hex_upper : (d : ℕ) → d < 16 → hex_value (upper d) ≡ Some d
hex_upper d h =
    elim (cases_lt d 10) [
      | inl w ↦ rw (lt-ltb d 10 w, le-leb 48 (48 + d) (omega arith), le-leb (48 + d) 57 (omega arith)) (ap Some (omega arith))
      | inr w ↦ rw (
        le-ltb d 10 w,
        le-leb 48 (55 + d) (omega arith),
        lt-leb (55 + d) 57 (omega arith),
        le-leb 65 (55 + d) (omega arith),
        le-leb (55 + d) 70 (omega arith),
      ) (ap Some (omega arith))
    ]

abbrev one : Bool → ℕ
one true = 1
one false = 0

-- a bit that was taken from the front of rising numbers
record Bit (n high x : ℕ) (ns rest : List ℕ) : Type 0 where
  is_set : Bool
  value : x ≡ one is_set
  whole : bit n is_set ++ rest ≡ ns
  rising : Between (n + 1) high rest

abbrev pick : Bool → ℕ → List ℕ → ℕ × List ℕ
pick t x xs = cond t (1, xs) (0, x ∷ xs)

bit_law : (n high : ℕ) (ns : List ℕ) → n < high → Between n high ns → Bit n high (bit_of n ns).0 ns (bit_of n ns).1
bit_law n high [] h b = record { is_set = false; value = refl; whole = refl; rising = omega arith }
bit_law n high (x ∷ xs) h b = by (eqb x n) refl
  where
    by : (t : Bool) → eqb x n ≡ t → Bit n high (pick t x xs).0 (x ∷ xs) (pick t x xs).1
    by true e =
        let k : x ≡ n = eqb-true x n e in
        let s : suc x ≡ n + 1 = omega (arith, k) in
        record { is_set = true; value = refl; whole = ap (λ m. m ∷ xs) (sym k); rising = subst (λ m. Between m high xs) s b.1 }
    by false e =
        let k : x ≡ n → ⊥ = eqb-false x n e in
        let above : n < x = omega (arith, b.0, k) in
        record { is_set = false; value = refl; whole = refl; rising = (omega (arith, above), b.1) }

nib : (n : ℕ) (p q r s : Bool) → nibble n (8 * one p + 4 * one q + 2 * one r + one s) ≡ bit n p ++ bit (n + 1) q ++ bit (n + 2) r ++ bit (n + 3) s
nib n true true true true = refl
nib n true true true false = refl
nib n true true false true = refl
nib n true true false false = refl
nib n true false true true = refl
nib n true false true false = refl
nib n true false false true = refl
nib n true false false false = refl
nib n false true true true = refl
nib n false true true false = refl
nib n false true false true = refl
nib n false true false false = refl
nib n false false true true = refl
nib n false false true false = refl
nib n false false false true = refl
nib n false false false false = refl

one_small : (p : Bool) → one p ≤ 1
one_small true = omega arith
one_small false = omega arith

record Digit (n high d : ℕ) (ns rest : List ℕ) : Type 0 where
  small : d < 16
  whole : nibble n d ++ rest ≡ ns
  rising : Between (n + 4) high rest

four : (n high : ℕ) (a b c d : ℕ) (ns r1 r2 r3 r4 : List ℕ) → Bit n high a ns r1 → Bit (n + 1) high b r1 r2 → Bit (n + 2) high c r2 r3 →
    Bit (n + 3) high d r3 r4 → Digit n high (8 * a + 4 * b + 2 * c + d) ns r4
four n high a b c d ns r1 r2 r3 r4 p q r s =
    let v : 8 * a + 4 * b + 2 * c + d ≡ 8 * one p.is_set + 4 * one q.is_set + 2 * one r.is_set + one s.is_set = rw (p.value, q.value, r.value, s.value) refl in
    let e : n + 3 + 1 ≡ n + 4 = omega arith in
    let bits = bit n p.is_set ++ bit (n + 1) q.is_set ++ bit (n + 2) r.is_set ++ bit (n + 3) s.is_set in
    let whole : bits ++ r4 ≡ ns =
    append_assoc (bit n p.is_set ++ bit (n + 1) q.is_set ++ bit (n + 2) r.is_set) (bit (n + 3) s.is_set) r4
    ∙ ap (λ (x : List ℕ). bit n p.is_set ++ bit (n + 1) q.is_set ++ bit (n + 2) r.is_set ++ x) s.whole
    ∙ append_assoc (bit n p.is_set ++ bit (n + 1) q.is_set) (bit (n + 2) r.is_set) r3
    ∙ ap (λ (x : List ℕ). bit n p.is_set ++ bit (n + 1) q.is_set ++ x) r.whole
    ∙ append_assoc (bit n p.is_set) (bit (n + 1) q.is_set) r2
    ∙ ap (λ (x : List ℕ). bit n p.is_set ++ x) q.whole
    ∙ p.whole in
    record {
      small = omega (arith, v, one_small p.is_set, one_small q.is_set, one_small r.is_set, one_small s.is_set);
      whole = ap (λ (m : ℕ). nibble n m ++ r4) v ∙ ap (λ (x : List ℕ). x ++ r4) (nib n p.is_set q.is_set r.is_set s.is_set) ∙ whole;
      rising = subst (λ m. Between m high r4) e s.rising;
    }

digit_law : (n high : ℕ) (ns : List ℕ) → n + 3 < high → Between n high ns → Digit n high (digit_of n ns).0 ns (digit_of n ns).1
digit_law n high ns h b =
    let p = bit_law n high ns (omega arith) b in
    let e2 : n + 1 + 1 ≡ n + 2 = omega arith in
    let e3 : n + 2 + 1 ≡ n + 3 = omega arith in
    let r1 = (bit_of n ns).1 in
    let q = bit_law (n + 1) high r1 (omega arith) p.rising in
    let r2 = (bit_of (n + 1) r1).1 in
    let r = bit_law (n + 2) high r2 (omega arith) (subst (λ m. Between m high r2) e2 q.rising) in
    let r3 = (bit_of (n + 2) r2).1 in
    let s = bit_law (n + 3) high r3 h (subst (λ m. Between m high r3) e3 r.rising) in
    four n high (bit_of n ns).0 (bit_of (n + 1) r1).0 (bit_of (n + 2) r2).0 (bit_of (n + 3) r3).0 ns r1 r2 r3 (bit_of (n + 3) r3).1 p q r s

none_left : (n : ℕ) (ns : List ℕ) → Between n n ns → ns ≡ []
none_left n [] b = refl
none_left n (x ∷ xs) b = absurd (past x n xs b.0 b.1)
  where
    past : (x n : ℕ) (xs : List ℕ) → n ≤ x → Between (suc x) n xs → ⊥
    past x n [] h b = omega (arith, b)
    past x n (y ∷ ys) h b = past y n ys (omega (arith, b.0)) b.1

bits_cons : (c d n : ℕ) (cs xs ns : List ℕ) → hex_value c ≡ Some d → bits_at (n + 4) cs ≡ Some xs → nibble n d ++ xs ≡ ns → bits_at n (c ∷ cs) ≡ Some ns
unfolding bits_at
bits_cons c d n cs xs ns p q e = rw (p, q) (ap Some e)

bits_spelled : (k n high : ℕ) (ns : List ℕ) → n + 4 * k ≡ high → Between n high ns
    → (bits_at n (bits_of n k ns) ≡ Some ns) × (list_all is_upper_hex (bits_of n k ns) ≡ true)
unfolding bits_of bits_at
bits_spelled zero n high ns h b =
    let e : high ≡ n = omega (arith, h) in
    (ap Some (sym (none_left n ns (subst (λ m. Between n m ns) e b))), refl)
bits_spelled (suc k) n high ns h b =
    let d = digit_law n high ns (omega (arith, h)) b in
    let more = bits_spelled k (n + 4) high (digit_of n ns).1 (omega (arith, h)) d.rising in (
      bits_cons (upper (digit_of n ns).0) (digit_of n ns).0 n (bits_of (n + 4) k (digit_of n ns).1) (digit_of n ns).1 ns (hex_upper (digit_of n ns).0 d.small)
          more.0 d.whole,
      rw (upper_hex (digit_of n ns).0 d.small) more.1,
    )

pub numbers_between : (low : ℕ) (fs : Fields) → low < 129 → AreFields low fs → Between (suc low) 129 (numbers_of fs)
numbers_between low [] h a = h
numbers_between low (f ∷ fs) h a = (a.0, numbers_between f.0 fs (taken_below f.0 f.1 (form_of f.0) refl a.1) a.2)

or_neither : (a b : Bool) → (a || b) ≡ false → (a ≡ false) × (b ≡ false)
or_neither true b h = absurd cc
or_neither false b h = (refl, h)

narrow : (low : ℕ) (ns : List ℕ) → low ≤ 65 → list_any (λ n. ltb 64 n) ns ≡ false → Between low 129 ns → Between low 65 ns
narrow low [] h e b = h
narrow low (n ∷ ns) h e b =
    let p = or_neither (ltb 64 n) (list_any (λ n. ltb 64 n) ns) e in
    let k : n ≤ 64 = ltb-false 64 n p.0 in
    (b.0, narrow (suc n) ns (omega arith) p.1 b.1)

lower : (high : ℕ) (ns : List ℕ) → Between 2 high ns → Between 1 high ns
lower high [] b = omega arith
lower high (n ∷ ns) b = (omega (arith, b.0), b.1)

-- ---- two bitmaps

packed_append : (xs ys : List ℕ) → length xs % 2 ≡ 0 → packed (xs ++ ys) ≡ packed xs ++ packed ys
packed_append [] ys h = refl
packed_append (x ∷ []) ys h = absurd cc
packed_append (x ∷ y ∷ xs) ys h = ap (λ (zs : List ℕ). (16 * x + y) ∷ zs) (packed_append xs ys (omega arith))

map_append : (f : ℕ → ℕ) (xs ys : List ℕ) → map f (xs ++ ys) ≡ map f xs ++ map f ys
map_append f [] ys = refl
map_append f (x ∷ xs) ys = ap (λ (zs : List ℕ). f x ∷ zs) (map_append f xs ys)

map_length : (f : ℕ → ℕ) (xs : List ℕ) → length (map f xs) ≡ length xs
map_length f [] = refl
map_length f (x ∷ xs) = ap suc (map_length f xs)

coded_append : (c : Coding) (one two : List ℕ) → takes_hex c ≡ true → length one % 2 ≡ 0 → coded c (one ++ two) ≡ coded c one ++ coded c two
coded_append Ascii one two t h = refl
coded_append (Ebcdic page) one two t h = map_append (code_in page) one two
coded_append (Packed r pad) one two t h = absurd cc
coded_append Octets one two t h =
    ap packed (map_append hex_half one two) ∙ packed_append (map hex_half one) (map hex_half two) (ap (λ (n : ℕ). n % 2) (map_length hex_half one) ∙ h)

wide : (c : Coding) (text one two ns : List ℕ) → takes_hex c ≡ true → one ++ two ≡ text → length one ≡ 16 → length two ≡ 16
    → list_all is_upper_hex text ≡ true → bits_at 1 text ≡ Some (1 ∷ ns) → AreNumbers c (coded c text) ns
wide c text one two ns t e p q h b =
    let hex = and_both (list_all is_upper_hex one) (list_all is_upper_hex two)
    (sym (list_all-append is_upper_hex one two) ∙ ap (list_all is_upper_hex) e ∙ h) in
    inr (
      coded c one,
      coded c two,
      one,
      two,
      ap (coded c) (sym e) ∙ coded_append c one two t (ap (λ (n : ℕ). n % 2) p),
      p,
      reads_back c one (hex_writable c one t (ap (λ (n : ℕ). n % 2) p) hex.0),
      q,
      reads_back c two (hex_writable c two t (ap (λ (n : ℕ). n % 2) q) hex.1),
      ap (bits_at 1) e ∙ b,
    )

pub are_numbers : (c : Coding) (ns : List ℕ) → takes_hex c ≡ true → Between 2 129 ns → AreNumbers c (coded c (bitmaps_of ns)) ns
are_numbers c ns t b = by (list_any (λ n. ltb 64 n) ns) refl
  where
    by : (w : Bool) → list_any (λ n. ltb 64 n) ns ≡ w → AreNumbers c (coded c (cond w (bits_of 1 32 (1 ∷ ns)) (bits_of 1 16 ns))) ns
    by true e =
        let text = bits_of 1 32 (1 ∷ ns) in
        let len : length text ≡ 32 = bits_length 32 1 (1 ∷ ns) in
        let spelled = bits_spelled 32 1 129 (1 ∷ ns) refl (omega arith, b) in
        wide c text (take 16 text) (drop 16 text) ns t (take-append-drop 16 text) (omega (arith, length-take 16 text)) (omega (arith, length-drop 16 text))
        spelled.1 spelled.0
    by false e =
        let text = bits_of 1 16 ns in
        let len : length text ≡ 16 = bits_length 16 1 ns in
        let spelled = bits_spelled 16 1 65 ns refl (lower 65 ns (narrow 2 ns (omega arith) e b)) in
        inl (text, len, reads_back c text (hex_writable c text t (ap (λ (n : ℕ). n % 2) len) spelled.1), spelled.0)
