-- What is written is a spelling of the message.
-- for: write::encode
use Rattle.std.proofs.Common.{◌≡◌, inl, inr, ℕ, zero, suc, ◌<◌, ◌≤◌, ◌+◌, ◌*◌, ◌/◌, ◌%◌, Bool, true, false, ◌&&◌, ◌||◌, cond, eqb, ltb, leb, List, [], ◌∷◌}
use Rattle.std.proofs.Common.{◌++◌, length, Option, Some, None, refl, sym, ap, subst, ◌∙◌, append_assoc, arith}
use Rattle.std.specs.List.{flat_map, list_all, list_any}
use Rattle.std.proofs.lemmas.Bool.{cases_lt, eqb-true, eqb-false, ltb-true, ltb-false, lt-ltb, le-ltb, le-leb, leb-true, lt-leb}
use Rattle.iso_msg.specs.declared.table.FieldForm.{FieldForm}
use Rattle.iso_msg.specs.declared.table.FieldForm.TheVariants.{Fixed, Variable, Binary}
use Rattle.iso_msg.specs.Table.{form_of, IsKnown}
use Rattle.iso_msg.proofs.FieldTable.{is_known}
use Rattle.iso_msg.proofs.Bools.{and_both, eqb-false_from}
use Rattle.iso_msg.proofs.FieldLists.{taken_below}
use Rattle.iso_codec.specs.Digits.{hex_value, bit, nibble, bits_at, octets}
use Rattle.sw_base.specs.Digits.{number_of}
use Rattle.iso_codec.proofs.Bitmaps.{Between}
use Rattle.std.proofs.Common.{Result, Ok, Err}
use Rattle.std.specs.Prelude.{IfOk}
use Rattle.std.specs.Global.{Vec}
use Rattle.iso_codec.proofs.MessageReads.{read_again}
use Rattle.iso_msg.specs.Messages.{Fields, PlainMessage, IsMessage, AreFields, numbers_of}
use Rattle.iso_msg.specs.Values.{refusal_by, has_length, has_content, is_byte}
use Rattle.iso_codec.specs.Grammar.{SpellsValue, SpellsFields, SpellsNumbers, Spells}
use Rattle.iso_codec.specs.Reads.{read}
use Rattle.iso_codec.specs.Spelling.{upper, bit_in, digit_in, bitmap, bitmaps, decimal, hex, text_of, field_text, spelling}
use Rattle.iso_codec.specs.RisingBitmaps.{bit_of, digit_of, bits_of, bitmaps_of, merged}

-- ---- digits

hex_upper : (d : ℕ) → d < 16 → hex_value (upper d) ≡ Some d
hex_upper d h =
    elim (cases_lt d 10) [
      | inl w ↦ rw (lt-ltb d 10 w, le-leb 48 (48 + d) (omega arith), le-leb (48 + d) 57 (omega arith)) (ap Some (omega arith))
      | inr w ↦ rw (
        le-ltb d 10 w,
        le-leb 48 (55 + d) (omega arith),
        lt-leb (55 + d) 57 (omega arith),
        le-leb 65 (55 + d) (omega arith),
        le-leb (55 + d) 70 (omega arith),
      ) (ap Some (omega arith))
    ]

pub octets_hex : (v : List ℕ) → list_all is_byte v ≡ true → octets (flat_map hex v) ≡ Some v
unfolding octets
octets_hex [] h = refl
octets_hex (b ∷ v) h =
    let p = and_both (is_byte b) (list_all is_byte v) h in
    let small : b < 256 = ltb-true b 256 p.0 in
    let e : 16 * (b / 16) + b % 16 ≡ b = omega arith in
    rw (hex_upper (b / 16) (omega arith), hex_upper (b % 16) (omega arith), octets_hex v p.1) (ap (λ n. Some (n ∷ v)) e)

pub hex_length : (v : List ℕ) → length (flat_map hex v) ≡ 2 * length v
hex_length [] = refl
hex_length (b ∷ v) = omega (arith, hex_length v)

digit_ok : (d : ℕ) → d < 10 → (leb 48 (48 + d) && leb (48 + d) 57) ≡ true
digit_ok d h = rw (le-leb 48 (48 + d) (omega arith), le-leb (48 + d) 57 (omega arith)) refl

two_digits : (n : ℕ) → n < 100 → number_of (decimal 2 n) ≡ Some n
two_digits n h = rw (digit_ok (n / 10 % 10) (omega arith), digit_ok (n % 10) (omega arith)) (ap Some (omega arith))

three_digits : (n : ℕ) → n < 1000 → number_of (decimal 3 n) ≡ Some n
three_digits n h = rw (digit_ok (n / 100) (omega arith), digit_ok (n / 10 % 10) (omega arith), digit_ok (n % 10) (omega arith)) (ap Some (omega arith))

-- ---- fields

pub picked : {A : Type 0} (b c : Bool) (x y : A) → cond b (cond c None (Some x)) (Some y) ≡ None → (b ≡ true) × (c ≡ true)
picked true true x y e = (refl, refl)
picked true false x y e = absurd cc
picked false c x y e = absurd cc

value_spelled : (o : Option FieldForm) (n : ℕ) (v : List ℕ) → IsKnown n o → refusal_by o n v ≡ None → SpellsValue o (text_of o v) v
value_spelled None n v k e = absurd cc
value_spelled (Some (Fixed c l)) n v k e =
    let p = picked (has_length (Fixed c l) (length v)) (has_content (Fixed c l) v) _ _ e in
    (refl, eqb-true (length v) l p.0, p.1)
value_spelled (Some (Variable c length_digits most)) n v k e =
    let p = picked (has_length (Variable c length_digits most) (length v)) (has_content (Variable c length_digits most) v) _ _ e in
    let h : length v ≤ most = leb-true (length v) most p.0 in
    elim k.2 [
      | inl w ↦ let s : length v < 100 = omega (arith, w.1) in
          subst (λ m. SpellsValue (Some (Variable c m most)) (decimal m (length v) ++ v) v) (sym w.0) (
            decimal 2 (length v),
            refl,
            refl,
            two_digits (length v) s,
            h,
            p.1,
          )
      | inr w ↦ let s : length v < 1000 = omega (arith, w.1) in
          subst (λ m. SpellsValue (Some (Variable c m most)) (decimal m (length v) ++ v) v) (sym w.0) (
            decimal 3 (length v),
            refl,
            refl,
            three_digits (length v) s,
            h,
            p.1,
          )
    ]
value_spelled (Some Binary) n v k e =
    let p = picked (has_length Binary (length v)) (has_content Binary v) _ _ e in
    let l : length v ≡ 8 = eqb-true (length v) 8 p.0 in
    (omega (arith, hex_length v, l), octets_hex v p.1)

fields_spelled : (low : ℕ) (fs : Fields) → AreFields low fs → SpellsFields (flat_map field_text fs) fs
fields_spelled low [] a = refl
fields_spelled low (f ∷ fs) a = (field_text f, flat_map field_text fs, refl, value_spelled (form_of f.0) f.0 f.1 (is_known f.0) a.1, fields_spelled f.0 fs a.2)

-- ---- bitmaps

abbrev one : Bool → ℕ
one true = 1
one false = 0

-- whether a number is one of these
abbrev has : List ℕ → ℕ → Bool
has ns n = list_any (λ m. eqb m n) ns

has_not : (low high n : ℕ) (ns : List ℕ) → n < low → Between low high ns → has ns n ≡ false
has_not low high n [] h b = refl
has_not low high n (x ∷ xs) h b = rw (eqb-false_from x n (λ e. omega (arith, b.0, e))) (has_not (suc x) high n xs (omega (arith, b.0)) b.1)

bit_in_is : (ns : List ℕ) (n : ℕ) (t : Bool) → has ns n ≡ t → bit_in ns n ≡ one t
bit_in_is ns n true e = rw e refl
bit_in_is ns n false e = rw e refl

-- a bit that was taken from the front of rising numbers
record Bit (n high x : ℕ) (ns rest : List ℕ) : Type 0 where
  is_set : Bool
  value : x ≡ one is_set
  whole : bit n is_set ++ rest ≡ ns
  rising : Between (n + 1) high rest
  here : has ns n ≡ is_set
  later : (m : ℕ) → n < m → has ns m ≡ has rest m

abbrev pick : Bool → ℕ → List ℕ → ℕ × List ℕ
pick t x xs = cond t (1, xs) (0, x ∷ xs)

bit_law : (n high : ℕ) (ns : List ℕ) → n < high → Between n high ns → Bit n high (bit_of n ns).0 ns (bit_of n ns).1
bit_law n high [] h b = record { is_set = false; value = refl; whole = refl; rising = omega arith; here = refl; later = λ m l. refl }
bit_law n high (x ∷ xs) h b = by (eqb x n) refl
  where
    by : (t : Bool) → eqb x n ≡ t → Bit n high (pick t x xs).0 (x ∷ xs) (pick t x xs).1
    by true e =
        let k : x ≡ n = eqb-true x n e in
        let s : suc x ≡ n + 1 = omega (arith, k) in
        record {
          is_set = true;
          value = refl;
          whole = ap (λ m. m ∷ xs) (sym k);
          rising = subst (λ m. Between m high xs) s b.1;
          here = rw e refl;
          later = λ m l. rw (eqb-false_from x m (λ f. omega (arith, k, f, l))) refl;
        }
    by false e =
        let k : x ≡ n → ⊥ = eqb-false x n e in
        let above : n < x = omega (arith, b.0, k) in
        record {
          is_set = false;
          value = refl;
          whole = refl;
          rising = (omega (arith, above), b.1);
          here = rw e (has_not (suc x) high n xs (omega (arith, above)) b.1);
          later = λ m l. refl;
        }

nib : (n : ℕ) (p q r s : Bool) → nibble n (8 * one p + 4 * one q + 2 * one r + one s) ≡ bit n p ++ bit (n + 1) q ++ bit (n + 2) r ++ bit (n + 3) s
nib n true true true true = refl
nib n true true true false = refl
nib n true true false true = refl
nib n true true false false = refl
nib n true false true true = refl
nib n true false true false = refl
nib n true false false true = refl
nib n true false false false = refl
nib n false true true true = refl
nib n false true true false = refl
nib n false true false true = refl
nib n false true false false = refl
nib n false false true true = refl
nib n false false true false = refl
nib n false false false true = refl
nib n false false false false = refl

one_small : (p : Bool) → one p ≤ 1
one_small true = omega arith
one_small false = omega arith

record Digit (n high d : ℕ) (ns rest : List ℕ) : Type 0 where
  small : d < 16
  whole : nibble n d ++ rest ≡ ns
  rising : Between (n + 4) high rest
  value : d ≡ digit_in ns n
  later : (m : ℕ) → n + 3 < m → has ns m ≡ has rest m

four : (n high : ℕ) (a b c d : ℕ) (ns r1 r2 r3 r4 : List ℕ) → Bit n high a ns r1 → Bit (n + 1) high b r1 r2 → Bit (n + 2) high c r2 r3 →
    Bit (n + 3) high d r3 r4 → Digit n high (8 * a + 4 * b + 2 * c + d) ns r4
four n high a b c d ns r1 r2 r3 r4 p q r s =
    let v : 8 * a + 4 * b + 2 * c + d ≡ 8 * one p.is_set + 4 * one q.is_set + 2 * one r.is_set + one s.is_set = rw (p.value, q.value, r.value, s.value) refl in
    let e : n + 3 + 1 ≡ n + 4 = omega arith in
    let b1 = bit_in_is ns (n + 1) q.is_set (p.later (n + 1) (omega arith) ∙ q.here) in
    let b2 = bit_in_is ns (n + 2) r.is_set (p.later (n + 2) (omega arith) ∙ q.later (n + 2) (omega arith) ∙ r.here) in
    let b3 = bit_in_is ns (n + 3) s.is_set (p.later (n + 3) (omega arith) ∙ q.later (n + 3) (omega arith) ∙ r.later (n + 3) (omega arith) ∙ s.here) in
    let bits = bit n p.is_set ++ bit (n + 1) q.is_set ++ bit (n + 2) r.is_set ++ bit (n + 3) s.is_set in
    let whole : bits ++ r4 ≡ ns =
    append_assoc (bit n p.is_set ++ bit (n + 1) q.is_set ++ bit (n + 2) r.is_set) (bit (n + 3) s.is_set) r4
    ∙ ap (λ (x : List ℕ). bit n p.is_set ++ bit (n + 1) q.is_set ++ bit (n + 2) r.is_set ++ x) s.whole
    ∙ append_assoc (bit n p.is_set ++ bit (n + 1) q.is_set) (bit (n + 2) r.is_set) r3
    ∙ ap (λ (x : List ℕ). bit n p.is_set ++ bit (n + 1) q.is_set ++ x) r.whole
    ∙ append_assoc (bit n p.is_set) (bit (n + 1) q.is_set) r2
    ∙ ap (λ (x : List ℕ). bit n p.is_set ++ x) q.whole
    ∙ p.whole in
    record {
      small = omega (arith, v, one_small p.is_set, one_small q.is_set, one_small r.is_set, one_small s.is_set);
      whole = ap (λ (m : ℕ). nibble n m ++ r4) v ∙ ap (λ (x : List ℕ). x ++ r4) (nib n p.is_set q.is_set r.is_set s.is_set) ∙ whole;
      rising = subst (λ m. Between m high r4) e s.rising;
      value = omega (arith, v, bit_in_is ns n p.is_set p.here, b1, b2, b3);
      later = λ m l. p.later m (omega arith) ∙ q.later m (omega arith) ∙ r.later m (omega arith) ∙ s.later m (omega arith);
    }

digit_law : (n high : ℕ) (ns : List ℕ) → n + 3 < high → Between n high ns → Digit n high (digit_of n ns).0 ns (digit_of n ns).1
digit_law n high ns h b =
    let p = bit_law n high ns (omega arith) b in
    let e2 : n + 1 + 1 ≡ n + 2 = omega arith in
    let e3 : n + 2 + 1 ≡ n + 3 = omega arith in
    let r1 = (bit_of n ns).1 in
    let q = bit_law (n + 1) high r1 (omega arith) p.rising in
    let r2 = (bit_of (n + 1) r1).1 in
    let r = bit_law (n + 2) high r2 (omega arith) (subst (λ m. Between m high r2) e2 q.rising) in
    let r3 = (bit_of (n + 2) r2).1 in
    let s = bit_law (n + 3) high r3 h (subst (λ m. Between m high r3) e3 r.rising) in
    four n high (bit_of n ns).0 (bit_of (n + 1) r1).0 (bit_of (n + 2) r2).0 (bit_of (n + 3) r3).0 ns r1 r2 r3 (bit_of (n + 3) r3).1 p q r s

none_left : (n : ℕ) (ns : List ℕ) → Between n n ns → ns ≡ []
none_left n [] b = refl
none_left n (x ∷ xs) b = absurd (past x n xs b.0 b.1)
  where
    past : (x n : ℕ) (xs : List ℕ) → n ≤ x → Between (suc x) n xs → ⊥
    past x n [] h b = omega (arith, b)
    past x n (y ∷ ys) h b = past y n ys (omega (arith, b.0)) b.1

bits_cons : (c d n : ℕ) (cs xs ns : List ℕ) → hex_value c ≡ Some d → bits_at (n + 4) cs ≡ Some xs → nibble n d ++ xs ≡ ns → bits_at n (c ∷ cs) ≡ Some ns
unfolding bits_at
bits_cons c d n cs xs ns p q e = rw (p, q) (ap Some e)

bits_spelled : (k n high : ℕ) (ns : List ℕ) → n + 4 * k ≡ high → Between n high ns → bits_at n (bits_of n k ns) ≡ Some ns
unfolding bits_of bits_at
bits_spelled zero n high ns h b =
    let e : high ≡ n = omega (arith, h) in
    ap Some (sym (none_left n ns (subst (λ m. Between n m ns) e b)))
bits_spelled (suc k) n high ns h b =
    let d = digit_law n high ns (omega (arith, h)) b in
    bits_cons (upper (digit_of n ns).0) (digit_of n ns).0 n (bits_of (n + 4) k (digit_of n ns).1) (digit_of n ns).1 ns (hex_upper (digit_of n ns).0 d.small)
    (bits_spelled k (n + 4) high (digit_of n ns).1 (omega (arith, h)) d.rising) d.whole

pub bits_length : (k n : ℕ) (ns : List ℕ) → length (bits_of n k ns) ≡ k
unfolding bits_of
bits_length zero n ns = refl
bits_length (suc k) n ns = ap suc (bits_length k (n + 4) (digit_of n ns).1)

numbers_between : (low : ℕ) (fs : Fields) → low < 129 → AreFields low fs → Between (suc low) 129 (numbers_of fs)
numbers_between low [] h a = h
numbers_between low (f ∷ fs) h a = (a.0, numbers_between f.0 fs (taken_below f.0 f.1 (form_of f.0) refl a.1) a.2)

narrow : (low : ℕ) (ns : List ℕ) → low ≤ 65 → list_any (λ n. ltb 64 n) ns ≡ false → Between low 129 ns → Between low 65 ns
narrow low [] h e b = h
narrow low (n ∷ ns) h e b =
    let p = or_neither (ltb 64 n) (list_any (λ n. ltb 64 n) ns) e in
    let k : n ≤ 64 = ltb-false 64 n p.0 in
    (b.0, narrow (suc n) ns (omega arith) p.1 b.1)
  where
    or_neither : (a b : Bool) → (a || b) ≡ false → (a ≡ false) × (b ≡ false)
    or_neither true b h = absurd cc
    or_neither false b h = (refl, h)

lower : (ns : List ℕ) → Between 2 65 ns → Between 1 65 ns
lower [] b = omega arith
lower (n ∷ ns) b = (omega (arith, b.0), b.1)

bitmaps_spelled : (ns : List ℕ) → Between 2 129 ns → SpellsNumbers (bitmaps_of ns) ns
bitmaps_spelled ns b = by (list_any (λ n. ltb 64 n) ns) refl
  where
    by : (t : Bool) → list_any (λ n. ltb 64 n) ns ≡ t → SpellsNumbers (cond t (bits_of 1 32 (1 ∷ ns)) (bits_of 1 16 ns)) ns
    by true e = inr (bits_length 32 1 (1 ∷ ns), bits_spelled 32 1 129 (1 ∷ ns) refl (omega arith, b))
    by false e = inl (bits_length 16 1 ns, bits_spelled 16 1 65 ns refl (lower ns (narrow 2 ns (omega arith) e b)))

-- the bits of numbers that rise are those of the numbers
same_digit : (all ns : List ℕ) (n : ℕ) → ((m : ℕ) → n ≤ m → has all m ≡ has ns m) → digit_in all n ≡ digit_in ns n
same_digit all ns n h =
    rw (h n (omega arith), h (n + 1) (omega arith), h (n + 2) (omega arith), h (n + 3) (omega arith)) refl

bits_same : (k n high : ℕ) (all ns : List ℕ) → n + 4 * k ≡ high → Between n high ns → ((m : ℕ) → n ≤ m → has all m ≡ has ns m)
    → bits_of n k ns ≡ bitmap all n k
unfolding bits_of bitmap
bits_same zero n high all ns h b e = refl
bits_same (suc k) n high all ns h b e =
    let d = digit_law n high ns (omega (arith, h)) b in
    let rest = (digit_of n ns).1 in
    let first : (digit_of n ns).0 ≡ digit_in all n = d.value ∙ sym (same_digit all ns n e) in
    let more = bits_same k (n + 4) high all rest (omega (arith, h)) d.rising (λ m l. e m (omega (arith, l)) ∙ d.later m (omega (arith, l))) in
    ap (λ (x : ℕ). upper x ∷ bits_of (n + 4) k rest) first ∙ ap (λ (x : List ℕ). upper (digit_in all n) ∷ x) more

bitmaps_same : (ns : List ℕ) → Between 2 129 ns → bitmaps_of ns ≡ bitmaps ns
bitmaps_same ns b = by (list_any (λ n. ltb 64 n) ns) refl
  where
    by : (t : Bool) → list_any (λ n. ltb 64 n) ns ≡ t → cond t (bits_of 1 32 (1 ∷ ns)) (bits_of 1 16 ns) ≡ cond t (bitmap (1 ∷ ns) 1 32) (bitmap ns 1 16)
    by true e = bits_same 32 1 129 (1 ∷ ns) (1 ∷ ns) refl (omega arith, b) (λ m l. refl)
    by false e = bits_same 16 1 65 ns ns refl (lower ns (narrow 2 ns (omega arith) e b)) (λ m l. refl)

pub merged_is : (m : PlainMessage) → IsMessage m → merged m ≡ spelling m
merged_is m v = ap (λ (x : List ℕ). m.mti ++ (x ++ flat_map field_text m.fields))
    (bitmaps_same (numbers_of m.fields) (numbers_between 1 m.fields (omega arith) v.1))

pub written : (m : PlainMessage) → IsMessage m → Spells (merged m) m
written m v = (
  bitmaps_of (numbers_of m.fields),
  flat_map field_text m.fields,
  refl,
  v.0,
  bitmaps_spelled (numbers_of m.fields) (numbers_between 1 m.fields (omega arith) v.1),
  fields_spelled 1 m.fields v.1,
)

pub spelled_by : {E : Type 0} (r : Result (Vec ℕ) E) (m : PlainMessage) → IsMessage m → IfOk r (λ v. v.items ≡ merged m) → IfOk r (λ v. Spells v.items m)
spelled_by (Ok v) m h e = subst (λ (x : List ℕ). Spells x m) (sym e) (written m h)
spelled_by (Err x) m h e = tt

pub again_by : {E : Type 0} (r : Result (Vec ℕ) E) (m : PlainMessage) → IsMessage m → IfOk r (λ v. v.items ≡ merged m) → IfOk r (λ v. read v.items ≡ Ok m)
again_by (Ok v) m h e = read_again v.items m (subst (λ (x : List ℕ). Spells x m) (sym e) (written m h))
again_by (Err x) m h e = tt

pub spelling_by : {E : Type 0} (r : Result (Vec ℕ) E) (m : PlainMessage) → IsMessage m → IfOk r (λ v. v.items ≡ merged m) → IfOk r (λ v. v.items ≡ spelling m)
spelling_by (Ok v) m h e = e ∙ merged_is m h
spelling_by (Err x) m h e = tt
