-- The fields that are written, and the loops that write them.
-- for: write_message::first_unwritable, write_message::numbers_in, write_message::push_fields, write_message::write_message
use Rattle.std.proofs.Common.{◌≡◌, ◌∙◌, ℕ, zero, suc, ◌+◌, ◌<◌, ◌≤◌, Bool, true, false, cond, List, [], ◌∷◌, ◌++◌, length, take, drop, get_or, Option, Some, None}
use Rattle.std.proofs.Common.{refl, sym, ap, arith, append_assoc, add-one}
use Rattle.std.specs.Prelude.{map, not}
use Rattle.std.specs.List.{flat_map}
use Rattle.std.proofs.lemmas.List.{append_cancel_left, append_cancel_right, drop_all, drop_more}
use Rattle.sw_base.specs.Refusals.{first_of, or_else, refused_if}
use Rattle.sw_base.proofs.Unrefused.{left_none, right_none}
use Rattle.iso_msg.specs.Table.{form_of}
use Rattle.iso_msg.specs.Messages.{AreFields, Fields, IsMessage, IsMti, PlainMessage, numbers_of}
use Rattle.iso_codec.specs.Reads.{field_numbers}
use Rattle.iso_codec.specs.RisingBitmaps.{bitmaps_of}
use Rattle.iso_codec.specs.Spelling.{bitmaps, field_text}
use Rattle.iso_codec.proofs.Encoding.{merged_is}
use Rattle.iso_dialect.specs.declared.coding.Coding.{Coding}
use Rattle.iso_dialect.specs.declared.row.Row.{Row}
use Rattle.iso_dialect.specs.declared.profile.Draft.{Draft}
use Rattle.iso_dialect.specs.Codings.{coded, is_writable}
use Rattle.iso_dialect.specs.Profiles.{Rows, refusal_in, row_of}
use Rattle.iso_dialect.specs.Writings.{can_write, field_bytes_in, is_left_out, kept, kept_in, spelling_as, unwritable_at, unwritable_in}
use Rattle.iso_dialect.proofs.CheckedRows.{codings_checked}
use Rattle.iso_dialect.proofs.DecimalDigits.{digits_writable}

abbrev Field : Type 0
Field = ℕ × List ℕ

abbrev none : Field
none = (0, [])

-- ---- numbers

left_by : (b : Bool) (g : Field) (one two : Fields) → one ≡ two → cond b one (g ∷ one) ≡ cond b two (g ∷ two)
left_by true g one two e = e
left_by false g one two e = ap (λ (x : Fields). g ∷ x) e

left_more : (rows : Rows) (fs : Fields) (i : ℕ) (f : Field) → i < length fs → f ≡ get_or fs i none → is_left_out (row_of rows f.0) ≡ true
    → kept_in rows (take (suc i) fs) ≡ kept_in rows (take i fs)
left_more rows [] i f h e t = absurd (omega arith)
left_more rows (g ∷ fs) zero f h e t = rw (ap (λ (x : Field). is_left_out (row_of rows x.0)) (sym e) ∙ t) refl
left_more rows (g ∷ fs) (suc i) f h e t =
    left_by (is_left_out (row_of rows g.0)) g (kept_in rows (take (suc i) fs)) (kept_in rows (take i fs)) (left_more rows fs i f (omega arith) e t)

kept_by : (b : Bool) (g f : Field) (one two : Fields) → one ≡ two ++ f ∷ [] → cond b one (g ∷ one) ≡ cond b two (g ∷ two) ++ f ∷ []
kept_by true g f one two e = e
kept_by false g f one two e = ap (λ (x : Fields). g ∷ x) e

kept_more : (rows : Rows) (fs : Fields) (i : ℕ) (f : Field) → i < length fs → f ≡ get_or fs i none → is_left_out (row_of rows f.0) ≡ false
    → kept_in rows (take (suc i) fs) ≡ kept_in rows (take i fs) ++ f ∷ []
kept_more rows [] i f h e t = absurd (omega arith)
kept_more rows (g ∷ fs) zero f h e t =
    rw (ap (λ (x : Field). is_left_out (row_of rows x.0)) (sym e) ∙ t) (ap (λ (x : Field). x ∷ []) (sym e))
kept_more rows (g ∷ fs) (suc i) f h e t =
    kept_by (is_left_out (row_of rows g.0)) g f (kept_in rows (take (suc i) fs)) (kept_in rows (take i fs)) (kept_more rows fs i f (omega arith) e t)

numbers_end : (fs : Fields) (f : Field) → numbers_of (fs ++ f ∷ []) ≡ numbers_of fs ++ f.0 ∷ []
numbers_end [] f = refl
numbers_end (g ∷ fs) f = ap (λ (x : List ℕ). g.0 ∷ x) (numbers_end fs f)

next : (rows : Rows) (fs : Fields) (i : ℕ) → 1 ∷ numbers_of (kept_in rows (take (suc i) fs)) ≡ 1 ∷ numbers_of (kept_in rows (take (i + 1) fs))
next rows fs i = ap (λ (k : ℕ). 1 ∷ numbers_of (kept_in rows (take k fs))) (sym (add-one i))

pub number_left : (rows : Rows) (fs : Fields) (i : ℕ) (f : Field) (numbers : List ℕ) → i < length fs → f ≡ get_or fs i none
    → is_left_out (row_of rows f.0) ≡ true → numbers ≡ 1 ∷ numbers_of (kept_in rows (take i fs))
    → numbers ≡ 1 ∷ numbers_of (kept_in rows (take (i + 1) fs))
number_left rows fs i f numbers h e t so_far =
    so_far ∙ ap (λ (x : Fields). 1 ∷ numbers_of x) (sym (left_more rows fs i f h e t)) ∙ next rows fs i

pub number_kept : (rows : Rows) (fs : Fields) (i : ℕ) (f : Field) (numbers new : List ℕ) → i < length fs → f ≡ get_or fs i none
    → is_left_out (row_of rows f.0) ≡ false → new ≡ numbers ++ f.0 ∷ [] → numbers ≡ 1 ∷ numbers_of (kept_in rows (take i fs))
    → new ≡ 1 ∷ numbers_of (kept_in rows (take (i + 1) fs))
number_kept rows fs i f numbers new h e t n so_far =
    n ∙ ap (λ (x : List ℕ). x ++ f.0 ∷ []) so_far ∙ ap (λ (x : List ℕ). 1 ∷ x) (sym (numbers_end (kept_in rows (take i fs)) f))
    ∙ ap (λ (x : Fields). 1 ∷ numbers_of x) (sym (kept_more rows fs i f h e t)) ∙ next rows fs i

-- what a test of a row says of the row of a number
pub left_is : (one two : Option Row) (b : Bool) → one ≡ two → b ≡ is_left_out one → is_left_out two ≡ b
left_is one two b e h = sym (ap is_left_out e) ∙ sym h

-- ---- each field can be written

pub not_refused : (b : Bool) (n : ℕ) → refused_if (not b) n ≡ None → b ≡ true
not_refused true n h = refl
not_refused false n h = absurd cc

pub first_written : (rows : Rows) (f : Field) (fs : Fields) → unwritable_in rows (f ∷ fs) ≡ None
    → (can_write (row_of rows f.0) (form_of f.0) f.1 ≡ true) × (unwritable_in rows fs ≡ None)
unfolding unwritable_in
first_written rows f fs h = (
  not_refused (can_write (row_of rows f.0) (form_of f.0) f.1) f.0 (left_none (unwritable_at rows f) (first_of (map (unwritable_at rows) fs)) h),
  right_none (unwritable_at rows f) (first_of (map (unwritable_at rows) fs)) h,
)

pub all_written : (rows : Rows) (fs : Fields) (i : ℕ) (f : Field) → unwritable_in rows fs ≡ None → i < length fs → f ≡ get_or fs i none
    → can_write (row_of rows f.0) (form_of f.0) f.1 ≡ true
all_written rows [] i f h l e = absurd (omega arith)
all_written rows (g ∷ fs) zero f h l e =
    ap (λ (x : Field). can_write (row_of rows x.0) (form_of x.0) x.1) e ∙ (first_written rows g fs h).0
all_written rows (g ∷ fs) (suc i) f h l e = all_written rows fs i f (first_written rows g fs h).1 (omega arith) e

-- ---- the first field that cannot be written

abbrev can_field : Rows → Field → Bool
can_field rows f = can_write (row_of rows f.0) (form_of f.0) f.1

-- what a test of a row says of the row of a number
pub can_is : (one two : Option Row) (n : ℕ) (v : List ℕ) (b c : Bool) → one ≡ two → b ≡ can_write one (form_of n) v → b ≡ c
    → can_write two (form_of n) v ≡ c
can_is one two n v b c e h t = sym (ap (λ (o : Option Row). can_write o (form_of n) v) e) ∙ sym h ∙ t

from_here : (rows : Rows) (fs : Fields) (i : ℕ) (f : Field) → i < length fs → f ≡ get_or fs i none
    → unwritable_in rows (drop i fs) ≡ or_else (refused_if (not (can_field rows f)) f.0) (unwritable_in rows (drop (i + 1) fs))
unfolding unwritable_in
from_here rows fs i f h e =
    ap (λ (x : Fields). first_of (map (unwritable_at rows) x)) (drop_more fs i none h)
    ∙ ap (λ (g : Field). or_else (refused_if (not (can_field rows g)) g.0) (first_of (map (unwritable_at rows) (drop (i + 1) fs)))) (sym e)

pub unwritable_next : (rows : Rows) (fs : Fields) (i : ℕ) (f : Field) (total : Option ℕ) → i < length fs → f ≡ get_or fs i none
    → can_field rows f ≡ true → unwritable_in rows (drop i fs) ≡ total → unwritable_in rows (drop (i + 1) fs) ≡ total
unwritable_next rows fs i f total h e t so_far =
    sym (ap (λ (b : Bool). or_else (refused_if (not b) f.0) (unwritable_in rows (drop (i + 1) fs))) t) ∙ sym (from_here rows fs i f h e) ∙ so_far

pub unwritable_here : (rows : Rows) (fs : Fields) (i : ℕ) (f : Field) (total : Option ℕ) → i < length fs → f ≡ get_or fs i none
    → can_field rows f ≡ false → unwritable_in rows (drop i fs) ≡ total → Some f.0 ≡ total
unwritable_here rows fs i f total h e t so_far =
    sym (ap (λ (b : Bool). or_else (refused_if (not b) f.0) (unwritable_in rows (drop (i + 1) fs))) t) ∙ sym (from_here rows fs i f h e) ∙ so_far

pub unwritable_end : (rows : Rows) (fs : Fields) (i : ℕ) (total : Option ℕ) → length fs ≤ i → unwritable_in rows (drop i fs) ≡ total → None ≡ total
unfolding unwritable_in
unwritable_end rows fs i total h so_far = sym (ap (λ (x : Fields). first_of (map (unwritable_at rows) x)) (drop_all i fs h)) ∙ so_far

-- ---- the message that is written is one

lower_fields : (low high : ℕ) (fs : Fields) → low ≤ high → AreFields high fs → AreFields low fs
lower_fields low high [] h a = tt
lower_fields low high (f ∷ fs) h a = (omega (arith, a.0), a.1, a.2)

fields_by : (b : Bool) (low : ℕ) (f : Field) (fs more : Fields) → AreFields low (f ∷ fs) → AreFields f.0 more → AreFields low (cond b more (f ∷ more))
fields_by true low f fs more a m = lower_fields low f.0 more (omega (arith, a.0)) m
fields_by false low f fs more a m = (a.0, a.1, m)

pub kept_fields : (rows : Rows) (low : ℕ) (fs : Fields) → AreFields low fs → AreFields low (kept_in rows fs)
kept_fields rows low [] a = tt
kept_fields rows low (f ∷ fs) a = fields_by (is_left_out (row_of rows f.0)) low f fs (kept_in rows fs) a (kept_fields rows f.0 fs a.2)

pub kept_message : (profile : Draft) (m : PlainMessage) → IsMessage m → IsMessage (kept profile m)
kept_message profile m v = (v.0, kept_fields profile.rows 1 m.fields v.1)

pub bitmaps_are : (m : PlainMessage) → IsMessage m → bitmaps_of (numbers_of m.fields) ≡ bitmaps (numbers_of m.fields)
bitmaps_are m v =
    let texts = flat_map field_text m.fields in
    append_cancel_right (bitmaps_of (numbers_of m.fields)) (bitmaps (numbers_of m.fields)) texts
    (append_cancel_left m.mti (bitmaps_of (numbers_of m.fields) ++ texts) (bitmaps (numbers_of m.fields) ++ texts) (merged_is m v))

-- ---- the parts of a message

pub mti_writable : (profile : Draft) (coding : Coding) (text mti : List ℕ) → refusal_in profile ≡ None → coding ≡ profile.mti → text ≡ mti → IsMti mti
    → is_writable coding text ≡ true
mti_writable profile coding text mti h e t d =
    let k = codings_checked profile h in
    ap (λ (c : Coding). is_writable c text) e ∙ ap (is_writable profile.mti) t ∙ digits_writable profile.mti mti k.digits k.pad d.1

pub assembled : (profile : Draft) (m : PlainMessage) (empty one two three numbers : List ℕ) (mti maps : Coding) (digits : List ℕ) → IsMessage m
    → numbers ≡ 1 ∷ numbers_of (kept_in profile.rows m.fields) → empty ≡ [] → mti ≡ profile.mti → maps ≡ profile.bitmap → digits ≡ m.mti
    → one ≡ empty ++ coded mti digits → two ≡ one ++ coded maps (bitmaps_of (field_numbers numbers))
    → three ≡ two ++ flat_map (field_bytes_in profile.rows) m.fields → three ≡ spelling_as profile m
assembled profile m empty one two three numbers mti maps digits v n z p q d a b c =
    let fields = flat_map (field_bytes_in profile.rows) m.fields in
    let ns = numbers_of (kept_in profile.rows m.fields) in
    let first : one ≡ coded profile.mti m.mti =
    a ∙ ap (λ (x : List ℕ). x ++ coded mti digits) z ∙ ap (λ (x : Coding). coded x digits) p ∙ ap (coded profile.mti) d in
    let second : coded maps (bitmaps_of (field_numbers numbers)) ≡ coded profile.bitmap (bitmaps ns) =
    ap (λ (x : Coding). coded x (bitmaps_of (field_numbers numbers))) q ∙ ap (λ (x : List ℕ). coded profile.bitmap (bitmaps_of (field_numbers x))) n
    ∙ ap (coded profile.bitmap) (bitmaps_are (kept profile m) (kept_message profile m v)) in
    c ∙ ap (λ (x : List ℕ). x ++ fields) (b ∙ ap (λ (x : List ℕ). x ++ coded maps (bitmaps_of (field_numbers numbers))) first
    ∙ ap (λ (x : List ℕ). coded profile.mti m.mti ++ x) second) ∙ append_assoc (coded profile.mti m.mti) (coded profile.bitmap (bitmaps ns)) fields
