-- What is written for a field is that field.
-- for: WrittenMessages, laws::fields_are_written
use Rattle.std.proofs.Common.{◌≡◌, ℕ, ◌*◌, ◌/◌, ◌%◌, ◌^◌, ◌<◌, ◌≤◌, Bool, true, false, ◌&&◌, ◌||◌, cond, eqb, List, [], ◌∷◌, length}
use Rattle.std.proofs.Common.{Option, Some, None, refl, arith}
use Rattle.std.specs.Prelude.{not}
use Rattle.std.specs.List.{list_all}
use Rattle.std.proofs.lemmas.Bool.{eqb-true, leb-true, ltb-true}
use Rattle.iso_msg.proofs.Bools.{and_both}
use Rattle.iso_msg.specs.declared.table.FieldForm.{FieldForm}
use Rattle.iso_msg.specs.declared.table.FieldForm.TheVariants.{Fixed, Variable, Binary}
use Rattle.iso_msg.specs.Table.{form_of}
use Rattle.iso_msg.specs.Values.{refusal, refusal_by}
use Rattle.iso_codec.proofs.Encoding.{hex_length, octets_hex}
use Rattle.iso_dialect.specs.declared.coding.Coding.{Coding}
use Rattle.iso_dialect.specs.declared.coding.Coding.TheVariants.{Ascii, Ebcdic, Packed, Octets}
use Rattle.iso_dialect.specs.declared.row.Count.{Count}
use Rattle.iso_dialect.specs.declared.row.Count.TheVariants.{Digits, Byte, TwoBytes}
use Rattle.iso_dialect.specs.declared.row.Size.{Size}
use Rattle.iso_dialect.specs.declared.row.Size.TheVariants.{Exact, Counted}
use Rattle.iso_dialect.specs.declared.row.Row.{Row}
use Rattle.iso_dialect.specs.Codings.{coded, is_upper_hex, is_writable}
use Rattle.iso_dialect.specs.Profiles.{has_room, is_count, is_count_pad, is_kept_in, is_pad, scale}
use Rattle.iso_dialect.specs.Fields.{IsField, IsFieldBy, IsNumber, IsSize, IsTextOf, IsValue}
use Rattle.iso_dialect.specs.Writings.{can_write, count_of, decimals, field_bytes, has_value_bytes, is_size, is_sound, is_sound_at, number_bytes, size_bytes, text_for}
use Rattle.iso_dialect.specs.Writings.{value_bytes}
use Rattle.iso_dialect.proofs.Written.{reads_back}
use Rattle.iso_dialect.proofs.DecimalDigits.{countable, decimals_are, digits_writable}
use Rattle.iso_dialect.proofs.TextLengths.{Valid, valid_by}

-- ---- the parts of what is sound

pub record Sound (row : Row) : Type 0 where
  pub count : is_count row.size ≡ true
  pub room : has_room row.size ≡ true
  pub count_pad : is_count_pad row.size ≡ true
  pub pad : is_pad row.coding ≡ true

pub sound_parts : (row : Row) → is_sound row ≡ true → Sound row
sound_parts row h =
    let p = and_both (is_count row.size) (has_room row.size && (is_count_pad row.size && is_pad row.coding)) h in
    let q = and_both (has_room row.size) (is_count_pad row.size && is_pad row.coding) p.1 in
    let r = and_both (is_count_pad row.size) (is_pad row.coding) q.1 in
    record { count = p.0; room = q.0; count_pad = r.0; pad = r.1 }

-- ---- how many are counted

number_is : (c : Count) (n most : ℕ) → is_count (Counted c most) ≡ true → has_room (Counted c most) ≡ true → is_count_pad (Counted c most) ≡ true → n ≤ most
    → IsNumber c (number_bytes c n) n
number_is (Digits coding digits) n most k r p h =
    let c = countable coding digits most k in
    let d = decimals_are digits n c.low c.high in
    let room : most < 10 ^ digits = ltb-true most (10 ^ digits) r in
    (decimals digits n, d.len, reads_back coding (decimals digits n) (digits_writable coding (decimals digits n) c.takes p d.all), d.number (omega arith))
number_is Byte n most k r p h = refl
number_is TwoBytes n most k r p h = (n / 256, n % 256, refl, omega arith)

size_is : (s : Size) (n : ℕ) → is_count s ≡ true → has_room s ≡ true → is_count_pad s ≡ true → is_size s n ≡ true → IsSize s (size_bytes s n) n
size_is (Exact exact) n k r p h = (refl, eqb-true n exact h)
size_is (Counted count most) n k r p h =
    let few : n ≤ most = leb-true n most h in
    (number_is count n most k r p few, few)

whole_count : (c : Coding) (text : List ℕ) → is_writable c text ≡ true → length text ≡ scale c * count_of c text
whole_count Ascii text h = omega arith
whole_count (Ebcdic page) text h = omega arith
whole_count (Packed r pad) text h = omega arith
whole_count Octets text h =
    let even : length text % 2 ≡ 0 = eqb-true (length text % 2) 0 (and_both (eqb (length text % 2) 0) (list_all is_upper_hex text) h).0 in
    omega arith

-- ---- values

text_is : (f : FieldForm) (v : List ℕ) → Valid f v → IsTextOf f (text_for f v) v
text_is (Fixed c e) v h = (refl, eqb-true (length v) e h.len, h.content)
text_is (Variable c d most) v h = (refl, leb-true (length v) most h.len, h.content)
text_is Binary v h = (omega (arith, hex_length v, eqb-true (length v) 8 h.len), octets_hex v h.content)

pub value_is : (row : Row) (o : Option FieldForm) (n : ℕ) (v : List ℕ) → is_sound row ≡ true → refusal_by o n v ≡ None → has_value_bytes row o v ≡ true
    → IsValue row o (value_bytes row o v) v
value_is row None n v s r h = absurd cc
value_is row (Some f) n v s r h =
    let k = sound_parts row s in
    let text = text_for f v in
    let p = and_both (is_writable row.coding text) (is_size row.size (count_of row.coding text)) h in (
      size_bytes row.size (count_of row.coding text),
      coded row.coding text,
      text,
      count_of row.coding text,
      refl,
      size_is row.size (count_of row.coding text) k.count k.room k.count_pad p.1,
      whole_count row.coding text p.0,
      reads_back row.coding text p.0,
      text_is f v (valid_by f n v r),
    )

by_is : (b : Bool) (row : Row) (n : ℕ) (v : List ℕ) → is_sound row ≡ true → refusal n v ≡ None → b ≡ true → (not b || has_value_bytes row (form_of n) v) ≡ true
    → IsFieldBy b row n (cond b (value_bytes row (form_of n) v) []) ((n, v) ∷ [])
by_is true row n v s r k h = (v, value_is row (form_of n) n v s r h, refl)
by_is false row n v s r k h = absurd cc

pub field_is : (o : Option Row) (n : ℕ) (v : List ℕ) → is_sound_at o ≡ true → refusal n v ≡ None → is_kept_in o ≡ true → can_write o (form_of n) v ≡ true
    → IsField o n (field_bytes o (form_of n) v) ((n, v) ∷ [])
field_is None n v s r k h = absurd cc
field_is (Some row) n v s r k h = by_is row.is_kept row n v s r k h
