-- How long the bytes of a message can be: the type, two bitmaps and the longest text of each field, so that a header of 64 bytes has
-- room before it in a frame. `iso_codec` proves a weaker bound in the same way.
-- for: encoder::content_of
use Rattle.std.proofs.Common.{◌≡◌, inl, inr, ℕ, zero, suc, ◌<◌, ◌≤◌, ◌+◌, ◌/◌, ◌%◌, Bool, true, false, cond, eqb, ltb, List, [], ◌∷◌, ◌++◌, length, Option}
use Rattle.std.proofs.Common.{Some, None, refl, subst, length-append, arith}
use Rattle.std.specs.List.{flat_map, list_any}
use Rattle.std.proofs.lemmas.Bool.{cases_eq, eqb-true, ltb-true, leb-true}
use Rattle.iso_msg.specs.declared.table.FieldForm.{FieldForm}
use Rattle.iso_msg.specs.declared.table.FieldForm.TheVariants.{Fixed, Variable, Binary}
use Rattle.iso_msg.specs.Table.{form_of, definition_of, rows}
use Rattle.iso_msg.specs.Values.{refusal_by, has_length, has_content}
use Rattle.iso_msg.specs.Messages.{Fields, PlainMessage, IsMessage, AreFields, numbers_of}
use Rattle.iso_msg.proofs.FieldLists.{taken_below}
use Rattle.iso_codec.specs.Spelling.{decimal, spelling, text_of, field_text}
use Rattle.iso_codec.specs.RisingBitmaps.{bits_of, bitmaps_of, merged}
use Rattle.iso_codec.proofs.Encoding.{picked, hex_length, bits_length, merged_is}

-- no text of a field of this form is longer
abbrev most_text : Option FieldForm → ℕ
most_text None = 0
most_text (Some (Fixed content exact)) = exact
most_text (Some (Variable content length_digits most)) = 3 + most
most_text (Some Binary) = 16

-- nor are the texts of this many numbers from n on, taken together
abbrev most_texts : ℕ → ℕ → ℕ
most_texts zero n = 0
most_texts (suc count) n = most_text (form_of n) + most_texts count (suc n)

all_below : ltb (most_texts 127 2) 9900 ≡ true
unfolding form_of definition_of rows
all_below = refl

all_texts : most_texts 127 2 < 9900
all_texts = ltb-true (most_texts 127 2) 9900 all_below

decimal_short : (length_digits n : ℕ) → length (decimal length_digits n) ≤ 3
decimal_short length_digits n = by (eqb length_digits 3)
  where
    by : (b : Bool) → length (cond b ((48 + n / 100) ∷ []) [] ++ ((48 + n / 10 % 10) ∷ (48 + n % 10) ∷ [])) ≤ 3
    by true = omega arith
    by false = omega arith

text_short : (o : Option FieldForm) (n : ℕ) (v : List ℕ) → refusal_by o n v ≡ None → length (text_of o v) ≤ most_text o
text_short None n v e = absurd cc
text_short (Some (Fixed c l)) n v e =
    let p = picked (has_length (Fixed c l) (length v)) (has_content (Fixed c l) v) _ _ e in
    omega (arith, eqb-true (length v) l p.0)
text_short (Some (Variable c length_digits most)) n v e =
    let p = picked (has_length (Variable c length_digits most) (length v)) (has_content (Variable c length_digits most) v) _ _ e in
    omega (arith, leb-true (length v) most p.0, decimal_short length_digits (length v), length-append (decimal length_digits (length v)) v)
text_short (Some Binary) n v e =
    let p = picked (has_length Binary (length v)) (has_content Binary v) _ _ e in
    omega (arith, eqb-true (length v) 8 p.0, hex_length v)

texts_short : (count low : ℕ) (fs : Fields) → low + count ≡ 128 → AreFields low fs → length (flat_map field_text fs) ≤ most_texts count (suc low)
texts_short count low [] h a = omega arith
texts_short zero low (f ∷ fs) h a = absurd (let below : f.0 < 129 = taken_below f.0 f.1 (form_of f.0) refl a.1 in let over : low < f.0 = a.0 in omega arith)
texts_short (suc count) low (f ∷ fs) h a =
    elim (cases_eq f.0 (suc low)) [
      | inl e ↦
          let here : length (field_text f) ≤ most_text (form_of (suc low)) =
          subst (λ n. length (field_text f) ≤ most_text (form_of n)) e (text_short (form_of f.0) f.0 f.1 a.1) in
          let more : length (flat_map field_text fs) ≤ most_texts count (suc (suc low)) =
          subst (λ n. length (flat_map field_text fs) ≤ most_texts count (suc n)) e (texts_short count f.0 fs (omega arith) a.2) in
          omega (arith, here, more, length-append (field_text f) (flat_map field_text fs))
      | inr e ↦
          let over : low < f.0 = a.0 in
          let later : length (flat_map field_text (f ∷ fs)) ≤ most_texts count (suc (suc low)) =
          texts_short count (suc low) (f ∷ fs) (omega arith) (omega arith, a.1, a.2) in
          omega (arith, later)
    ]

bitmaps_short : (ns : List ℕ) → length (bitmaps_of ns) ≤ 32
bitmaps_short ns = by (list_any (λ n. ltb 64 n) ns)
  where
    by : (b : Bool) → length (cond b (bits_of 1 32 (1 ∷ ns)) (bits_of 1 16 ns)) ≤ 32
    by true = omega (arith, bits_length 32 1 (1 ∷ ns))
    by false = omega (arith, bits_length 16 1 ns)

merged_short : (m : PlainMessage) → IsMessage m → length (merged m) ≤ 9935
merged_short m v =
    let bitmaps = bitmaps_of (numbers_of m.fields) in
    let texts = flat_map field_text m.fields in
    let four : length m.mti ≡ 4 = v.0.0 in
    omega (
      arith,
      length-append m.mti (bitmaps ++ texts),
      length-append bitmaps texts,
      four,
      bitmaps_short (numbers_of m.fields),
      texts_short 127 1 m.fields refl v.1,
      all_texts,
    )

-- with a header before it
pub fits : (header : List ℕ) (m : PlainMessage) → IsMessage m → length header ≤ 64 → length (header ++ spelling m) ≤ 9999
fits header m v short =
    let bound : length (spelling m) ≤ 9935 = subst (λ (x : List ℕ). length x ≤ 9935) (merged_is m v) (merged_short m v) in
    omega (arith, length-append header (spelling m), bound, short)
