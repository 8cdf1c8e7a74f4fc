-- Writing: which field cannot be written, and the one spelling that is written. Where many bytes spell a message, hexadecimal
-- digits are in upper case, there is a second bitmap only if a field above 64 is written, and a pad is the profile's.
use Rattle.std.specs.Prelude.{◌≡◌, ℕ, ◌+◌, ◌-◌, ◌/◌, ◌%◌, ◌==◌, nat_le, Bool, true, false, ◌&&◌, ◌||◌, not, List, [], ◌∷◌, ◌++◌, length, map, drop}
use Rattle.std.specs.Prelude.{Option, Some, None, Result, Ok, Err, if◌then◌else◌}
use Rattle.std.specs.List.{flat_map, list_all}
use Rattle.sw_base.specs.Refusals.{first_of, refused_if}
use Rattle.iso_msg.specs.declared.table.FieldForm.{FieldForm}
use Rattle.iso_msg.specs.declared.table.FieldForm.TheVariants.{Fixed, Variable, Binary}
use Rattle.iso_msg.specs.Table.{form_of}
use Rattle.iso_msg.specs.Values.{is_byte, refusal}
use Rattle.iso_msg.specs.Messages.{Fields, IsMessage, PlainMessage, numbers_of}
use Rattle.iso_codec.specs.declared.error.DecodeError.{DecodeError}
use Rattle.iso_codec.specs.Grammar.{Spells}
use Rattle.iso_codec.specs.Reads.{read}
use Rattle.iso_codec.specs.Spelling.{bitmaps, hex}
use Rattle.iso_dialect.specs.declared.coding.Coding.{Coding}
use Rattle.iso_dialect.specs.declared.row.Count.{Count}
use Rattle.iso_dialect.specs.declared.row.Count.TheVariants.{Digits, Byte, TwoBytes}
use Rattle.iso_dialect.specs.declared.row.Size.{Size}
use Rattle.iso_dialect.specs.declared.row.Size.TheVariants.{Exact, Counted}
use Rattle.iso_dialect.specs.declared.row.Row.{Row}
use Rattle.iso_dialect.specs.declared.profile.Draft.{Draft}
use Rattle.iso_dialect.specs.declared.error.WriteError.{WriteError}
use Rattle.iso_dialect.specs.declared.error.WriteError.TheVariants.{NotAMessage, NotWritable, OutOfMemory}
use Rattle.iso_dialect.specs.Codings.{coded, is_writable}
use Rattle.iso_dialect.specs.Profiles.{Rows, has_room, is_count, is_count_pad, is_kept_at, is_pad, refusal_in, row_of, scale}
use Rattle.iso_dialect.specs.Fields.{IsField}
use Rattle.iso_dialect.specs.Messages.{SpellsAs}
use Rattle.iso_dialect.specs.Readings.{read_as}

-- ---- what can be written

-- a value of this many is counted so
abbrev pub is_size : Size → ℕ → Bool
is_size (Exact exact) n = n == exact
is_size (Counted count most) n = nat_le n most

-- how many are counted of a text
abbrev pub count_of : Coding → List ℕ → ℕ
count_of coding text = length text / scale coding

-- a row has bytes for this text
abbrev pub has_bytes : Row → List ℕ → Bool
has_bytes row text = is_writable row.coding text && is_size row.size (count_of row.coding text)

-- the text of a value, with hexadecimal digits in upper case
abbrev pub text_for : FieldForm → List ℕ → List ℕ
text_for (Fixed content exact) value = value
text_for (Variable content length_digits most) value = value
text_for Binary value = flat_map hex value

abbrev pub has_value_bytes : Row → Option FieldForm → List ℕ → Bool
has_value_bytes row None value = false
has_value_bytes row (Some form) value = has_bytes row (text_for form value)

-- a field can be written if its row has bytes for it, or says that it is left out
abbrev pub can_write : Option Row → Option FieldForm → List ℕ → Bool
can_write None form value = false
can_write (Some row) form value = not row.is_kept || has_value_bytes row form value

abbrev pub unwritable_at : Rows → ℕ × List ℕ → Option ℕ
unwritable_at rows field = refused_if (not (can_write (row_of rows field.0) (form_of field.0) field.1)) field.0

-- the first of these fields that cannot be written
unfoldable pub unwritable_in : Rows → Fields → Option ℕ
unwritable_in rows fields = first_of (map (unwritable_at rows) fields)

-- ---- what is written

-- a row says that the field is left out
abbrev pub is_left_out : Option Row → Bool
is_left_out None = false
is_left_out (Some row) = not row.is_kept

-- the fields without those that are left out
abbrev pub kept_in : Rows → Fields → Fields
kept_in rows [] = []
kept_in rows (field ∷ fields) = if is_left_out (row_of rows field.0) then kept_in rows fields else field ∷ kept_in rows fields

-- the message without the fields that are left out
abbrev pub kept : Draft → PlainMessage → PlainMessage
kept profile m = record { mti = m.mti; fields = kept_in profile.rows m.fields }

-- a number below 10,000 in this many decimal digits
abbrev pub decimals : ℕ → ℕ → List ℕ
decimals digits n =
    drop (4 - digits) ((48 + n / 1000 % 10) ∷ (48 + n / 100 % 10) ∷ (48 + n / 10 % 10) ∷ (48 + n % 10) ∷ [])

abbrev pub number_bytes : Count → ℕ → List ℕ
number_bytes (Digits coding digits) n = coded coding (decimals digits n)
number_bytes Byte n = n ∷ []
number_bytes TwoBytes n = n / 256 ∷ n % 256 ∷ []

abbrev pub size_bytes : Size → ℕ → List ℕ
size_bytes (Exact exact) n = []
size_bytes (Counted count most) n = number_bytes count n

abbrev pub text_bytes : Row → List ℕ → List ℕ
text_bytes row text = size_bytes row.size (count_of row.coding text) ++ coded row.coding text

abbrev pub value_bytes : Row → Option FieldForm → List ℕ → List ℕ
value_bytes row None value = []
value_bytes row (Some form) value = text_bytes row (text_for form value)

abbrev pub field_bytes : Option Row → Option FieldForm → List ℕ → List ℕ
field_bytes None form value = []
field_bytes (Some row) form value = if row.is_kept then value_bytes row form value else []

abbrev pub field_bytes_in : Rows → ℕ × List ℕ → List ℕ
field_bytes_in rows field = field_bytes (row_of rows field.0) (form_of field.0) field.1

-- the bytes that are written for a message
abbrev pub spelling_as : Draft → PlainMessage → List ℕ
spelling_as profile m =
    coded profile.mti m.mti
    ++ (coded profile.bitmap (bitmaps (numbers_of (kept_in profile.rows m.fields))) ++ flat_map (field_bytes_in profile.rows) m.fields)

-- a row can be written by
abbrev pub is_sound : Row → Bool
is_sound row = is_count row.size && (has_room row.size && (is_count_pad row.size && is_pad row.coding))

abbrev pub is_sound_at : Option Row → Bool
is_sound_at None = true
is_sound_at (Some row) = is_sound row

-- ---- laws of fields

-- A field that is kept and can be written is what is written for it.
abbrev pub WritesFields : Type 0
WritesFields = (profile : Draft) (n : ℕ) (value : List ℕ) → refusal_in profile ≡ None → refusal n value ≡ None → is_kept_at profile.rows n ≡ true
    → can_write (row_of profile.rows n) (form_of n) value ≡ true
    → IsField (row_of profile.rows n) n (field_bytes (row_of profile.rows n) (form_of n) value) ((n, value) ∷ [])

-- A field that some bytes are can be written.
abbrev pub WritesAll : Type 0
WritesAll = (profile : Draft) (n : ℕ) (value bytes : List ℕ) → refusal_in profile ≡ None → list_all is_byte bytes ≡ true
    → IsField (row_of profile.rows n) n bytes ((n, value) ∷ []) → can_write (row_of profile.rows n) (form_of n) value ≡ true

-- ---- what writing gives

-- the one spelling of the message of a text, without the fields that are left out
abbrev pub IsWrittenOf : Draft → List ℕ → List ℕ → Type 0
IsWrittenOf profile text bytes =
    (m : PlainMessage) × Spells text m × SpellsAs profile bytes (kept profile m) × (bytes ≡ spelling_as profile m)
    × (read_as profile bytes ≡ Ok (kept profile m))

-- why a text is not written
abbrev pub IsWriteFault : Draft → List ℕ → WriteError → Type 0
IsWriteFault profile text (NotAMessage e) = read text ≡ Err e
IsWriteFault profile text (NotWritable n) = (m : PlainMessage) × Spells text m × (unwritable_in profile.rows m.fields ≡ Some n)
IsWriteFault profile text OutOfMemory = (m : PlainMessage) × Spells text m × (unwritable_in profile.rows m.fields ≡ None)

-- why what was read is not written
abbrev pub Refuses : Draft → WriteError → Result PlainMessage DecodeError → Type 0
Refuses profile (NotAMessage e) reading = reading ≡ Err e
Refuses profile (NotWritable n) reading = (m : PlainMessage) × (reading ≡ Ok m) × (unwritable_in profile.rows m.fields ≡ Some n)
Refuses profile OutOfMemory reading = (m : PlainMessage) × (reading ≡ Ok m) × (unwritable_in profile.rows m.fields ≡ None)

-- what writing what was read gives, seen by view
abbrev pub GivesBytes : {X : Type 0} → (X → List ℕ) → Draft → Result X WriteError → Result PlainMessage DecodeError → Type 0
GivesBytes view profile (Ok x) reading =
    (m : PlainMessage) × (reading ≡ Ok m) × IsMessage m × (unwritable_in profile.rows m.fields ≡ None) × (view x ≡ spelling_as profile m)
GivesBytes view profile (Err e) reading = Refuses profile e reading
