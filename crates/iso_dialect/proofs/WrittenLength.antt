-- How long the bytes of a message can be: the type, two bitmaps, and the longest bytes of each field.
-- for: recode::from_ascii (the sum over the table is as in iso_codec)
use Rattle.std.proofs.Common.{◌≡◌, inl, inr, ℕ, zero, suc, ◌<◌, ◌≤◌, ◌+◌, Bool, true, false, ◌||◌, cond, ltb, List, [], ◌∷◌, ◌++◌, length}
use Rattle.std.proofs.Common.{Option, Some, None, refl, ap, subst, length-append, arith}
use Rattle.std.specs.Prelude.{not}
use Rattle.std.specs.List.{flat_map}
use Rattle.std.proofs.lemmas.Bool.{cases_eq, ltb-true}
use Rattle.iso_msg.proofs.Bools.{and_both}
use Rattle.iso_msg.proofs.FieldLists.{taken_below}
use Rattle.iso_msg.specs.declared.table.FieldForm.{FieldForm}
use Rattle.iso_msg.specs.Table.{form_of, definition_of, rows}
use Rattle.iso_msg.specs.Values.{refusal_by}
use Rattle.iso_msg.specs.Messages.{AreFields, Fields, IsMessage, PlainMessage, numbers_of}
use Rattle.iso_codec.specs.RisingBitmaps.{bitmaps_of}
use Rattle.iso_codec.specs.Spelling.{bitmaps}
use Rattle.iso_dialect.specs.declared.coding.Coding.{Coding}
use Rattle.iso_dialect.specs.declared.coding.Coding.TheVariants.{Ascii, Ebcdic, Packed, Octets}
use Rattle.iso_dialect.specs.declared.row.Count.{Count}
use Rattle.iso_dialect.specs.declared.row.Count.TheVariants.{Digits, Byte, TwoBytes}
use Rattle.iso_dialect.specs.declared.row.Size.{Size}
use Rattle.iso_dialect.specs.declared.row.Size.TheVariants.{Exact, Counted}
use Rattle.iso_dialect.specs.declared.row.Row.{Row}
use Rattle.iso_dialect.specs.declared.profile.Draft.{Draft}
use Rattle.iso_dialect.specs.Codings.{byte_count, coded, is_writable}
use Rattle.iso_dialect.specs.Profiles.{Rows, is_count, is_count_pad, refusal_in, row_of}
use Rattle.iso_dialect.specs.Writings.{can_write, count_of, decimals, field_bytes, field_bytes_in, has_value_bytes, is_size, is_sound, is_sound_at, kept, kept_in}
use Rattle.iso_dialect.specs.Writings.{number_bytes, size_bytes, spelling_as, text_for, unwritable_in, value_bytes}
use Rattle.iso_dialect.proofs.CheckedRows.{codings_checked, sound_at}
use Rattle.iso_dialect.proofs.DecimalDigits.{countable, decimals_are, digits_writable}
use Rattle.iso_dialect.proofs.FormLengths.{below_most, most_length}
use Rattle.iso_dialect.proofs.KeptFields.{bitmaps_are, first_written, kept_fields, kept_message}
use Rattle.iso_dialect.proofs.TextLengths.{text_length_of, valid_by}
use Rattle.iso_dialect.proofs.Written.{reads_back}
use Rattle.iso_dialect.proofs.WrittenBitmaps.{are_numbers, numbers_between}
use Rattle.iso_dialect.specs.Messages.{AreNumbers}
use Rattle.iso_dialect.proofs.WrittenFields.{sound_parts}

byte_few : (c : Coding) (n : ℕ) → byte_count c n ≤ n
byte_few Ascii n = omega arith
byte_few (Ebcdic page) n = omega arith
byte_few (Packed r pad) n = omega arith
byte_few Octets n = omega arith

-- no text has more bytes than characters
coded_few : (c : Coding) (text : List ℕ) → is_writable c text ≡ true → length (coded c text) ≤ length text
coded_few c text w = omega (arith, byte_few c (length text), (reads_back c text w).0)

number_few : (c : Count) (n most : ℕ) → is_count (Counted c most) ≡ true → is_count_pad (Counted c most) ≡ true → length (number_bytes c n) ≤ 4
number_few (Digits coding digits) n most k p =
    let c = countable coding digits most k in
    let d = decimals_are digits n c.low c.high in
    omega (arith, coded_few coding (decimals digits n) (digits_writable coding (decimals digits n) c.takes p d.all), d.len, c.high)
number_few Byte n most k p = omega arith
number_few TwoBytes n most k p = omega arith

size_few : (s : Size) (n : ℕ) → is_count s ≡ true → is_count_pad s ≡ true → length (size_bytes s n) ≤ 4
size_few (Exact exact) n k p = omega arith
size_few (Counted count most) n k p = number_few count n most k p

-- no field of this form has more bytes
abbrev most_bytes : Option FieldForm → ℕ
most_bytes None = 0
most_bytes (Some f) = 4 + most_length f

value_few : (row : Row) (o : Option FieldForm) (n : ℕ) (v : List ℕ) → is_sound row ≡ true → refusal_by o n v ≡ None → has_value_bytes row o v ≡ true
    → length (value_bytes row o v) ≤ most_bytes o
value_few row None n v s r h = absurd cc
value_few row (Some f) n v s r h =
    let k = sound_parts row s in
    let text = text_for f v in
    let p = and_both (is_writable row.coding text) (is_size row.size (count_of row.coding text)) h in
    omega (
      arith,
      length-append (size_bytes row.size (count_of row.coding text)) (coded row.coding text),
      size_few row.size (count_of row.coding text) k.count k.count_pad,
      coded_few row.coding text p.0,
      below_most f (length text) (text_length_of f v (valid_by f n v r).len),
    )

by_few : (b : Bool) (row : Row) (o : Option FieldForm) (n : ℕ) (v : List ℕ) → is_sound row ≡ true → refusal_by o n v ≡ None
    → (not b || has_value_bytes row o v) ≡ true → length (cond b (value_bytes row o v) []) ≤ most_bytes o
by_few true row o n v s r h = value_few row o n v s r h
by_few false row o n v s r h = omega arith

field_few : (row : Option Row) (o : Option FieldForm) (n : ℕ) (v : List ℕ) → is_sound_at row ≡ true → refusal_by o n v ≡ None → can_write row o v ≡ true
    → length (field_bytes row o v) ≤ most_bytes o
field_few None o n v s r h = omega arith
field_few (Some row) o n v s r h = by_few row.is_kept row o n v s r h

-- ---- all fields

-- no more bytes have the fields of this many numbers from n on, taken together
abbrev all_bytes : ℕ → ℕ → ℕ
all_bytes zero n = 0
all_bytes (suc count) n = most_bytes (form_of n) + all_bytes count (suc n)

all_below : ltb (all_bytes 127 2) 9900 ≡ true
unfolding form_of definition_of rows
all_below = refl

all_few : all_bytes 127 2 < 9900
all_few = ltb-true (all_bytes 127 2) 9900 all_below

fields_few : (rs : Rows) (count low : ℕ) (fs : Fields) → low + count ≡ 128 → ((n : ℕ) → is_sound_at (row_of rs n) ≡ true) → AreFields low fs
    → unwritable_in rs fs ≡ None → length (flat_map (field_bytes_in rs) fs) ≤ all_bytes count (suc low)
fields_few rs count low [] h s a u = omega arith
fields_few rs zero low (f ∷ fs) h s a u =
    absurd (let below : f.0 < 129 = taken_below f.0 f.1 (form_of f.0) refl a.1 in let over : low < f.0 = a.0 in omega arith)
fields_few rs (suc count) low (f ∷ fs) h s a u =
    let w = first_written rs f fs u in
    elim (cases_eq f.0 (suc low)) [
      | inl e ↦
          let here : length (field_bytes_in rs f) ≤ most_bytes (form_of (suc low)) =
          subst (λ n. length (field_bytes_in rs f) ≤ most_bytes (form_of n)) e (field_few (row_of rs f.0) (form_of f.0) f.0 f.1 (s f.0) a.1 w.0) in
          let more : length (flat_map (field_bytes_in rs) fs) ≤ all_bytes count (suc (suc low)) =
          subst (λ n. length (flat_map (field_bytes_in rs) fs) ≤ all_bytes count (suc n)) e (fields_few rs count f.0 fs (omega arith) s a.2 w.1) in
          omega (arith, here, more, length-append (field_bytes_in rs f) (flat_map (field_bytes_in rs) fs))
      | inr e ↦
          let over : low < f.0 = a.0 in
          let later : length (flat_map (field_bytes_in rs) (f ∷ fs)) ≤ all_bytes count (suc (suc low)) =
          fields_few rs count (suc low) (f ∷ fs) (omega arith) s (omega arith, a.1, a.2) u in
          omega (arith, later)
    ]

numbers_few : (c : Coding) (map ns : List ℕ) → AreNumbers c map ns → length map ≤ 32
numbers_few c map ns (inl w) = omega (arith, byte_few c (length w.0), w.1, w.2.0)
numbers_few c map ns (inr w) =
    omega (arith, ap length w.4, length-append w.0 w.1, byte_few c (length w.2), byte_few c (length w.3), w.5, w.6.0, w.7, w.8.0)

pub message_few : (profile : Draft) (m : PlainMessage) → refusal_in profile ≡ None → IsMessage m → unwritable_in profile.rows m.fields ≡ None
    → length (spelling_as profile m) ≤ 9999
message_few profile m c v u =
    let k = codings_checked profile c in
    let fs = kept_in profile.rows m.fields in
    let ns = numbers_of fs in
    let type = coded profile.mti m.mti in
    let map = coded profile.bitmap (bitmaps ns) in
    let rest = flat_map (field_bytes_in profile.rows) m.fields in
    let numbers = are_numbers profile.bitmap ns k.hex (numbers_between 1 fs (omega arith) (kept_fields profile.rows 1 m.fields v.1)) in
    let same : length (coded profile.bitmap (bitmaps_of ns)) ≡ length map =
    ap (λ (x : List ℕ). length (coded profile.bitmap x)) (bitmaps_are (kept profile m) (kept_message profile m v)) in
    let maps : length map ≤ 32 = omega (arith, same, numbers_few profile.bitmap (coded profile.bitmap (bitmaps_of ns)) ns numbers) in
    let four : length m.mti ≡ 4 = v.0.0 in
    omega (
      arith,
      length-append type (map ++ rest),
      length-append map rest,
      coded_few profile.mti m.mti (digits_writable profile.mti m.mti k.digits k.pad v.0.1),
      four,
      maps,
      fields_few profile.rows 127 1 m.fields refl (λ n. sound_at profile n c) v.1 u,
      all_few,
    )
