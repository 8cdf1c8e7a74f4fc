-- A field that has bytes can be written.
-- for: WrittenMessages, laws::fields_are_written
use Rattle.std.proofs.Common.{◌≡◌, ◌∙◌, ◌⊎◌, inl, inr, ℕ, ◌+◌, ◌-◌, ◌*◌, ◌/◌, ◌%◌, ◌<◌, ◌≤◌, Bool, true, false, ◌||◌, cond, eqb, leb, ltb, List, [], ◌∷◌, ◌++◌, length}
use Rattle.std.proofs.Common.{Option, Some, None, refl, sym, ap, subst, arith}
use Rattle.std.specs.Prelude.{map, not}
use Rattle.std.specs.List.{flat_map, list_all}
use Rattle.std.proofs.lemmas.Bool.{eqb-true, eq-eqb, leb-true, le-leb, ltb-true, lt-ltb}
use Rattle.std.proofs.lemmas.List.Folds.{list_all-append}
use Rattle.sw_base.specs.Digits.{is_digit}
use Rattle.sw_base.specs.Refusals.{first_of}
use Rattle.sw_base.proofs.Unrefused.{left_none, right_none}
use Rattle.iso_msg.proofs.Bools.{and_both, chosen, or_either, some_is}
use Rattle.iso_msg.specs.declared.table.FieldForm.{FieldForm}
use Rattle.iso_msg.specs.declared.table.FieldForm.TheVariants.{Fixed, Variable, Binary}
use Rattle.iso_msg.specs.declared.table.Content.{Content}
use Rattle.iso_msg.specs.declared.table.Content.TheVariants.{Numeric, Printable}
use Rattle.iso_msg.specs.Table.{form_of}
use Rattle.iso_msg.specs.Values.{is_byte, is_text, takes}
use Rattle.iso_msg.specs.Messages.{Fields, PlainMessage}
use Rattle.iso_codec.specs.Digits.{both, hex_value, octets}
use Rattle.iso_codec.specs.Spelling.{hex, upper}
use Rattle.iso_codec.proofs.Encoding.{hex_length}
use Rattle.iso_dialect.specs.declared.coding.Coding.{Coding}
use Rattle.iso_dialect.specs.declared.coding.Coding.TheVariants.{Ascii, Ebcdic, Packed, Octets}
use Rattle.iso_dialect.specs.declared.row.Size.{Size}
use Rattle.iso_dialect.specs.declared.row.Size.TheVariants.{Exact, Counted}
use Rattle.iso_dialect.specs.declared.row.Row.{Row}
use Rattle.iso_dialect.specs.Codings.{IsCoded, char_of, each, halves, is_packed, is_upper_hex, is_writable, unpadded}
use Rattle.iso_dialect.specs.declared.profile.Draft.{Draft}
use Rattle.iso_dialect.specs.Profiles.{Rows, is_pad, refusal_in, row_of, scale}
use Rattle.iso_dialect.specs.Fields.{IsField, IsFieldBy, IsSize, IsTextOf, IsValue}
use Rattle.iso_dialect.specs.Messages.{AreFieldsOf, SpellsAs}
use Rattle.iso_dialect.specs.Writings.{can_write, count_of, has_value_bytes, is_left_out, is_size, is_sound, is_sound_at, kept, kept_in, text_for}
use Rattle.iso_dialect.specs.Writings.{unwritable_at, unwritable_in}
use Rattle.iso_dialect.proofs.BitmapWrites.{hex_text, upper_hex}
use Rattle.iso_dialect.proofs.DecimalDigits.{digit_text}
use Rattle.iso_dialect.proofs.OctetBytes.{hex_by, octets_bytes, octets_by}
use Rattle.iso_dialect.proofs.FieldReads.{then_some}
use Rattle.iso_dialect.proofs.CheckedRows.{sound_at}
use Rattle.iso_dialect.proofs.WrittenFields.{sound_parts}

abbrev first_value : Fields → List ℕ
first_value [] = []
first_value (f ∷ fs) = f.1

-- ---- characters

none_some : (c : ℕ) (P : Type 0) → None ≡ Some c → P
none_some c P e = absurd cc

-- the character of a half can be packed
packed_char : (d c : ℕ) → char_of d ≡ Some c → is_packed c ≡ true
packed_char d c e =
    elim (chosen (ltb d 10) (Some (48 + d)) (cond (eqb d 13) (Some 61) None) (Some c) e) [
      | inl w ↦
          let low : d < 10 = ltb-true d 10 w.0 in
          let same : 48 + d ≡ c = some_is (48 + d) c w.1 in
          rw (le-leb 48 c (omega arith), le-leb c 57 (omega arith)) refl
      | inr w ↦ elim (chosen (eqb d 13) (Some 61) None (Some c) w.1) [
        | inl u ↦ subst (λ (x : ℕ). is_packed x ≡ true) (some_is 61 c u.1) refl
        | inr u ↦ none_some c (is_packed c ≡ true) u.1
      ]
    ]

each_parts : (o : Option ℕ) (r : Option (List ℕ)) (v : List ℕ) → both (λ c cs. c ∷ cs) o r ≡ Some v → (c : ℕ) × (cs : List ℕ) × (o ≡ Some c) × (r ≡ Some cs)
    × (v ≡ c ∷ cs)
each_parts None r v e = absurd cc
each_parts (Some c) None v e = absurd cc
each_parts (Some c) (Some cs) v e = (c, cs, refl, refl, sym (some_is (c ∷ cs) v e))

packed_chars : (ds text : List ℕ) → each char_of ds ≡ Some text → list_all is_packed text ≡ true
packed_chars [] text e = subst (λ (x : List ℕ). list_all is_packed x ≡ true) (some_is [] text e) refl
packed_chars (d ∷ ds) text e =
    let s = each_parts (char_of d) (each char_of ds) text e in
    subst (λ (x : List ℕ). list_all is_packed x ≡ true) (sym s.4) (rw (packed_char d s.0 s.2) (packed_chars ds s.1 s.3))

-- the text of bytes is of upper case digits, two a byte
pub hex_digits : (bytes : List ℕ) → list_all is_byte bytes ≡ true → list_all is_upper_hex (flat_map hex bytes) ≡ true
hex_digits [] h = refl
hex_digits (b ∷ bytes) h =
    let p = and_both (is_byte b) (list_all is_byte bytes) h in
    let small : b < 256 = ltb-true b 256 p.0 in
    rw (upper_hex (b / 16) (omega arith), upper_hex (b % 16) (omega arith)) (hex_digits bytes p.1)

hex_even : (bytes : List ℕ) → eqb (length (flat_map hex bytes) % 2) 0 ≡ true
hex_even bytes = eq-eqb (length (flat_map hex bytes) % 2) 0 (omega (arith, hex_length bytes))

pub octets_writable : (bytes : List ℕ) → list_all is_byte bytes ≡ true → is_writable Octets (flat_map hex bytes) ≡ true
octets_writable bytes h = rw (hex_even bytes, hex_digits bytes h) refl

content_text : (c : Content) (v : List ℕ) → takes c v ≡ true → list_all is_text v ≡ true
content_text Numeric v h = digit_text v h
content_text Printable v h = h

-- ---- the upper case text of eight bytes

-- a digit that can be packed is the same in upper case
packed_upper : (c d : ℕ) → is_packed c ≡ true → hex_value c ≡ Some d → upper d ≡ c
packed_upper c d p e =
    elim (or_either (is_digit c) (eqb c 61) p) [
      | inl w ↦
          let q = and_both (leb 48 c) (leb c 57) w in
          let low : 48 ≤ c = leb-true 48 c q.0 in
          let high : c ≤ 57 = leb-true c 57 q.1 in
          let value : hex_value c ≡ Some (c - 48) = rw w refl in
          let same : c - 48 ≡ d = some_is (c - 48) d (sym value ∙ e) in
          rw (lt-ltb d 10 (omega arith)) (omega arith)
      | inr w ↦
          let is : c ≡ 61 = eqb-true c 61 w in
          let none : hex_value 61 ≡ Some d = ap hex_value (sym is) ∙ e in
          none_some d (upper d ≡ c) none
    ]

both_octet : (b : ℕ) (o p : Option ℕ) → both (λ h l. 16 * h + l) o p ≡ Some b → (h : ℕ) × (l : ℕ) × (o ≡ Some h) × (p ≡ Some l) × (b ≡ 16 * h + l)
both_octet b None p x = absurd cc
both_octet b (Some h) None x = absurd cc
both_octet b (Some h) (Some l) x = (h, l, refl, refl, sym (some_is (16 * h + l) b x))

packed_octets : (text v : List ℕ) → list_all is_packed text ≡ true → octets text ≡ Some v → flat_map hex v ≡ text
unfolding octets
packed_octets [] v p e = ap (flat_map hex) (sym (some_is [] v e))
packed_octets (c ∷ []) v p e = absurd cc
packed_octets (c ∷ d ∷ cs) v p e =
    let a = and_both (is_packed c) (list_all is_packed (d ∷ cs)) p in
    let b = and_both (is_packed d) (list_all is_packed cs) a.1 in
    let s = octets_by (both (λ h l. 16 * h + l) (hex_value c) (hex_value d)) (octets cs) v e in
    let o = both_octet s.0 (hex_value c) (hex_value d) s.2 in
    let whole : s.0 ≡ 16 * o.0 + o.1 = o.4 in
    let low : o.1 < 16 = hex_by d o.1 o.3 in
    let first : upper (s.0 / 16) ≡ c = ap upper (omega arith) ∙ packed_upper c o.0 a.0 o.2 in
    let second : upper (s.0 % 16) ≡ d = ap upper (omega arith) ∙ packed_upper d o.1 b.0 o.3 in
    ap (flat_map hex) s.4 ∙ rw (first, second, packed_octets cs s.1 b.1 s.3) refl

-- ---- a value with bytes is writable

same_binary : (c : Coding) (text v : List ℕ) → octets text ≡ Some v → is_writable c text ≡ true → is_writable c (flat_map hex v) ≡ true
same_binary Ascii text v e w = refl
same_binary (Ebcdic page) text v e w = hex_text (flat_map hex v) (hex_digits v (octets_bytes text v e))
same_binary (Packed r pad) text v e w =
    let p = and_both (ltb pad 16) (list_all is_packed text) w in
    ap (is_writable (Packed r pad)) (packed_octets text v p.1 e) ∙ w
same_binary Octets text v e w = octets_writable v (octets_bytes text v e)

-- where a text can be written, so can the one that is written for the same value
same_can : (c : Coding) (f : FieldForm) (text v : List ℕ) → IsTextOf f text v → is_writable c text ≡ true → is_writable c (text_for f v) ≡ true
same_can c (Fixed content exact) text v t w = ap (is_writable c) (sym t.0) ∙ w
same_can c (Variable content digits most) text v t w = ap (is_writable c) (sym t.0) ∙ w
same_can c Binary text v t w = same_binary c text v t.1 w

octets_length : (text v : List ℕ) → octets text ≡ Some v → length text ≡ 2 * length v
unfolding octets
octets_length [] v e = let z : length v ≡ 0 = ap length (sym (some_is [] v e)) in omega (arith, z)
octets_length (c ∷ []) v e = absurd cc
octets_length (c ∷ d ∷ cs) v e =
    let s = octets_by (both (λ h l. 16 * h + l) (hex_value c) (hex_value d)) (octets cs) v e in
    omega (arith, ap length s.4, octets_length cs s.1 s.3)

same_length : (f : FieldForm) (text v : List ℕ) → IsTextOf f text v → length (text_for f v) ≡ length text
same_length (Fixed content exact) text v t = ap length (sym t.0)
same_length (Variable content digits most) text v t = ap length (sym t.0)
same_length Binary text v t = omega (arith, hex_length v, octets_length text v t.1)

for_text : (f : FieldForm) (text v : List ℕ) → IsTextOf f text v → list_all is_text (text_for f v) ≡ true
for_text (Fixed content exact) text v t = content_text content v t.2
for_text (Variable content digits most) text v t = content_text content v t.2
for_text Binary text v t = hex_text (flat_map hex v) (hex_digits v (octets_bytes text v t.1))

value_can : (c : Coding) (f : FieldForm) (bytes text v : List ℕ) → is_pad c ≡ true → list_all is_byte bytes ≡ true → IsTextOf f text v → IsCoded c bytes text
    → is_writable c (text_for f v) ≡ true
value_can Ascii f bytes text v p h t k = refl
value_can (Ebcdic page) f bytes text v p h t k = for_text f text v t
value_can (Packed r pad) f bytes text v p h t k =
    let s = then_some (each char_of) (unpadded r pad (length text) (flat_map halves bytes)) text k.1 in
    same_can (Packed r pad) f text v t (rw p (packed_chars s.0 text s.2))
value_can Octets f bytes text v p h t k =
    same_can Octets f text v t (subst (λ (x : List ℕ). is_writable Octets x ≡ true) (some_is (flat_map hex bytes) text k.1) (octets_writable bytes h))

is_sized : (s : Size) (front : List ℕ) (n : ℕ) → IsSize s front n → is_size s n ≡ true
is_sized (Exact exact) front n h = eq-eqb n exact h.1
is_sized (Counted count most) front n h = le-leb n most h.1

count_back : (c : Coding) (text : List ℕ) (n : ℕ) → length text ≡ scale c * n → count_of c text ≡ n
count_back Ascii text n h = omega arith
count_back (Ebcdic page) text n h = omega arith
count_back (Packed r pad) text n h = omega arith
count_back Octets text n h = omega arith

right_bytes : (front body : List ℕ) → list_all is_byte (front ++ body) ≡ true → list_all is_byte body ≡ true
right_bytes front body h = (and_both (list_all is_byte front) (list_all is_byte body) (sym (list_all-append is_byte front body) ∙ h)).1

pub value_writable : (row : Row) (o : Option FieldForm) (bytes v : List ℕ) → is_sound row ≡ true → list_all is_byte bytes ≡ true → IsValue row o bytes v
    → has_value_bytes row o v ≡ true
value_writable row None bytes v s h k = absurd k
value_writable row (Some f) bytes v s h k =
    let body : list_all is_byte k.1 ≡ true = right_bytes k.0 k.1 (ap (list_all is_byte) (sym k.4) ∙ h) in
    let can = value_can row.coding f k.1 k.2 v (sound_parts row s).pad body k.8 k.7 in
    let n : count_of row.coding (text_for f v) ≡ k.3 = count_back row.coding (text_for f v) k.3 (same_length f k.2 v k.8 ∙ k.6) in
    rw can (ap (is_size row.size) n ∙ is_sized row.size k.0 k.3 k.5)

by_can : (b : Bool) (row : Row) (n : ℕ) (bytes v : List ℕ) → is_sound row ≡ true → list_all is_byte bytes ≡ true → IsFieldBy b row n bytes ((n, v) ∷ [])
    → (not b || has_value_bytes row (form_of n) v) ≡ true
by_can true row n bytes v s h k =
    let same : k.0 ≡ v = ap first_value (sym k.2) in
    ap (has_value_bytes row (form_of n)) (sym same) ∙ value_writable row (form_of n) bytes k.0 s h k.1
by_can false row n bytes v s h k = refl

pub field_can : (o : Option Row) (n : ℕ) (bytes v : List ℕ) → is_sound_at o ≡ true → list_all is_byte bytes ≡ true → IsField o n bytes ((n, v) ∷ [])
    → can_write o (form_of n) v ≡ true
field_can None n bytes v s h k = absurd k
field_can (Some row) n bytes v s h k = by_can row.is_kept row n bytes v s h k

-- a field of bytes is none of those of the message, or it is the one of this number
pub none_or_one : (o : Option Row) (n : ℕ) (bytes : List ℕ) (fs : Fields) → IsField o n bytes fs → (fs ≡ []) ⊎ ((v : List ℕ) × (fs ≡ (n, v) ∷ []))
none_or_one None n bytes fs k = absurd k
none_or_one (Some row) n bytes fs k = by row.is_kept k
  where
    by : (b : Bool) → IsFieldBy b row n bytes fs → (fs ≡ []) ⊎ ((v : List ℕ) × (fs ≡ (n, v) ∷ []))
    by true k = inr (k.0, k.2)
    by false k = inl k.1

-- what is a field of the message can be written
fields_can : (rows : Rows) (ns bytes : List ℕ) (fs : Fields) → ((n : ℕ) → is_sound_at (row_of rows n) ≡ true) → list_all is_byte bytes ≡ true
    → AreFieldsOf rows ns bytes fs → unwritable_in rows fs ≡ None
unfolding unwritable_in
fields_can rows [] bytes fs s h k = ap (λ (x : Fields). first_of (map (unwritable_at rows) x)) k.1
fields_can rows (n ∷ ns) bytes fs s h k =
    let both_parts = and_both (list_all is_byte k.0) (list_all is_byte k.1)
    (sym (list_all-append is_byte k.0 k.1) ∙ ap (list_all is_byte) (sym k.4) ∙ h) in
    let more = fields_can rows ns k.1 k.3 s both_parts.1 k.7 in
    elim (none_or_one (row_of rows n) n k.0 k.2 k.6) [
      | inl e ↦ ap (λ (x : Fields). first_of (map (unwritable_at rows) x)) (k.5 ∙ ap (λ (x : Fields). x ++ k.3) e) ∙ more
      | inr w ↦
          let one : IsField (row_of rows n) n k.0 ((n, w.0) ∷ []) = subst (λ (x : Fields). IsField (row_of rows n) n k.0 x) w.1 k.6 in
          let can = field_can (row_of rows n) n k.0 w.0 (s n) both_parts.0 one in
          ap (λ (x : Fields). first_of (map (unwritable_at rows) x)) (k.5 ∙ ap (λ (x : Fields). x ++ k.3) w.1) ∙ rw can more
    ]

-- so are the fields that are left out
kept_can_by : (o : Option Row) (n : ℕ) (v : List ℕ) → is_left_out o ≡ true → can_write o (form_of n) v ≡ true
kept_can_by None n v h = absurd cc
kept_can_by (Some row) n v h = rw h refl

pub kept_can : (rows : Rows) (fs : Fields) → unwritable_in rows (kept_in rows fs) ≡ None → unwritable_in rows fs ≡ None
unfolding unwritable_in
kept_can rows [] h = refl
kept_can rows (f ∷ fs) h = step rows f fs (is_left_out (row_of rows f.0)) refl h (λ g. kept_can rows fs g)
  where
    step : (rows : Rows) (f : ℕ × List ℕ) (fs : Fields) (b : Bool) → is_left_out (row_of rows f.0) ≡ b
        → first_of (map (unwritable_at rows) (cond b (kept_in rows fs) (f ∷ kept_in rows fs))) ≡ None
        → (first_of (map (unwritable_at rows) (kept_in rows fs)) ≡ None → first_of (map (unwritable_at rows) fs) ≡ None)
        → first_of (map (unwritable_at rows) (f ∷ fs)) ≡ None
    step rows f fs true e h next = rw (kept_can_by (row_of rows f.0) f.0 f.1 e) (next h)
    step rows f fs false e h next =
        let here = left_none (unwritable_at rows f) (first_of (map (unwritable_at rows) (kept_in rows fs))) h in
        rw here (next (right_none (unwritable_at rows f) (first_of (map (unwritable_at rows) (kept_in rows fs))) h))

map_bytes : (type map rest bytes : List ℕ) → bytes ≡ type ++ (map ++ rest) → list_all is_byte bytes ≡ true → list_all is_byte rest ≡ true
map_bytes type map rest bytes e h =
    right_bytes map rest (right_bytes type (map ++ rest) (ap (list_all is_byte) (sym e) ∙ h))

-- what some bytes spell can be written
pub spelled_can : (profile : Draft) (m : PlainMessage) (bytes : List ℕ) → refusal_in profile ≡ None → list_all is_byte bytes ≡ true
    → SpellsAs profile bytes (kept profile m) → unwritable_in profile.rows m.fields ≡ None
spelled_can profile m bytes c h s =
    kept_can profile.rows m.fields
    (fields_can profile.rows s.3 s.2 (kept_in profile.rows m.fields) (λ n. sound_at profile n c) (map_bytes s.0 s.1 s.2 bytes s.4 h) s.8)
