-- A field as another system writes it, and the order in which it is read.
use Rattle.std.specs.Prelude.{◌≡◌, ◌≤◌, ℕ, ◌+◌, ◌*◌, nat_lt, Bool, true, false, List, [], ◌∷◌, ◌++◌, length, get_or, Option, Some, None}
use Rattle.std.specs.Prelude.{Result, Ok, Err, if◌then◌else◌}
use Rattle.sw_base.specs.Digits.{number_of}
use Rattle.iso_msg.specs.declared.table.FieldForm.{FieldForm}
use Rattle.iso_msg.specs.declared.table.FieldForm.TheVariants.{Fixed, Variable, Binary}
use Rattle.iso_msg.specs.Table.{form_of}
use Rattle.iso_msg.specs.Values.{takes}
use Rattle.iso_msg.specs.Messages.{Fields}
use Rattle.iso_codec.specs.declared.error.DecodeError.{DecodeError}
use Rattle.iso_codec.specs.declared.error.DecodeError.TheVariants.{FieldNotInProfile, BadLength, BadContent}
use Rattle.iso_codec.specs.Digits.{octets}
use Rattle.iso_codec.specs.Reads.{◌>>=◌, or_fault, part}
use Rattle.iso_dialect.specs.declared.coding.Coding.{Coding}
use Rattle.iso_dialect.specs.declared.row.Count.{Count}
use Rattle.iso_dialect.specs.declared.row.Count.TheVariants.{Digits, Byte, TwoBytes}
use Rattle.iso_dialect.specs.declared.row.Size.{Size}
use Rattle.iso_dialect.specs.declared.row.Size.TheVariants.{Exact, Counted}
use Rattle.iso_dialect.specs.declared.row.Row.{Row}
use Rattle.iso_dialect.specs.Codings.{IsCoded, byte_count, text_of}
use Rattle.iso_dialect.specs.Profiles.{has_text_length, scale}

-- ---- the grammar

-- bytes that are a number
abbrev pub IsNumber : Count → List ℕ → ℕ → Type 0
IsNumber (Digits coding digits) bytes n =
    (text : List ℕ) × (length text ≡ digits) × IsCoded coding bytes text × (number_of text ≡ Some n)
IsNumber Byte bytes n = bytes ≡ n ∷ []
IsNumber TwoBytes bytes n = (high low : ℕ) × (bytes ≡ high ∷ low ∷ []) × (n ≡ 256 * high + low)

-- bytes that tell how many are counted
abbrev pub IsSize : Size → List ℕ → ℕ → Type 0
IsSize (Exact exact) bytes n = (bytes ≡ []) × (n ≡ exact)
IsSize (Counted count most) bytes n = IsNumber count bytes n × (n ≤ most)

-- the text of a value in the switch: the value itself, or the sixteen digits of its eight bytes
abbrev pub IsTextOf : FieldForm → List ℕ → List ℕ → Type 0
IsTextOf (Fixed content exact) text value = (text ≡ value) × (length value ≡ exact) × (takes content value ≡ true)
IsTextOf (Variable content length_digits most) text value = (text ≡ value) × (length value ≤ most) × (takes content value ≡ true)
IsTextOf Binary text value = (length text ≡ 16) × (octets text ≡ Some value)

-- bytes that are a field with this value: how many are counted, and the value's text
abbrev pub IsValue : Row → Option FieldForm → List ℕ → List ℕ → Type 0
IsValue row None bytes value = ⊥
IsValue row (Some form) bytes value =
    (front body text : List ℕ) × (count : ℕ) × (bytes ≡ front ++ body) × IsSize row.size front count
    × (length text ≡ scale row.coding * count) × IsCoded row.coding body text × IsTextOf form text value

-- bytes that are a field that is not kept: as many as it tells, whatever they are
abbrev pub IsPassed : Row → List ℕ → Type 0
IsPassed row bytes =
    (front body : List ℕ) × (count : ℕ) × (bytes ≡ front ++ body) × IsSize row.size front count
    × (length body ≡ byte_count row.coding (scale row.coding * count))

-- bytes that are a field, and the field of the message, if it is kept
abbrev pub IsFieldBy : Bool → Row → ℕ → List ℕ → Fields → Type 0
IsFieldBy true row n bytes fields = (value : List ℕ) × IsValue row (form_of n) bytes value × (fields ≡ (n, value) ∷ [])
IsFieldBy false row n bytes fields = IsPassed row bytes × (fields ≡ [])

abbrev pub IsField : Option Row → ℕ → List ℕ → Fields → Type 0
IsField None n bytes fields = ⊥
IsField (Some row) n bytes fields = IsFieldBy row.is_kept row n bytes fields

-- ---- the order of reading

-- a text of this length at the front
abbrev pub coded_at : Coding → ℕ → DecodeError → List ℕ → Result (List ℕ × List ℕ) DecodeError
coded_at coding count fault bytes = do
  body ← part (byte_count coding count) bytes
  text ← or_fault (text_of coding count body.0) fault
  Ok (text, body.1)

unfoldable pub digits_at : Coding → ℕ → ℕ → List ℕ → Result (ℕ × List ℕ) DecodeError
digits_at coding digits n bytes = do
  text ← coded_at coding digits (BadLength n) bytes
  k ← or_fault (number_of text.0) (BadLength n)
  Ok (k, text.1)

unfoldable pub byte_at : List ℕ → Result (ℕ × List ℕ) DecodeError
byte_at bytes = do
  front ← part 1 bytes
  Ok (get_or front.0 0 0, front.1)

unfoldable pub two_bytes_at : List ℕ → Result (ℕ × List ℕ) DecodeError
two_bytes_at bytes = do
  front ← part 2 bytes
  Ok (256 * get_or front.0 0 0 + get_or front.0 1 0, front.1)

abbrev pub number_at : Count → ℕ → List ℕ → Result (ℕ × List ℕ) DecodeError
number_at (Digits coding digits) n bytes = digits_at coding digits n bytes
number_at Byte n bytes = byte_at bytes
number_at TwoBytes n bytes = two_bytes_at bytes

unfoldable pub counted_at : Count → ℕ → ℕ → List ℕ → Result (ℕ × List ℕ) DecodeError
counted_at count most n bytes = do
  k ← number_at count n bytes
  if nat_lt most k.0 then Err (BadLength n) else Ok k

abbrev pub size_at : Size → ℕ → List ℕ → Result (ℕ × List ℕ) DecodeError
size_at (Exact exact) n bytes = Ok (exact, bytes)
size_at (Counted count most) n bytes = counted_at count most n bytes

-- the text of a field that the switch has in this form
unfoldable pub field_text_at : Row → FieldForm → ℕ → List ℕ → Result (List ℕ × List ℕ) DecodeError
field_text_at row form n bytes = do
  k ← size_at row.size n bytes
  if has_text_length form (scale row.coding * k.0)
      then coded_at row.coding (scale row.coding * k.0) (BadContent n) k.1
      else Err (BadLength n)

-- the value that a text of the right length is of
abbrev pub value_in : FieldForm → ℕ → List ℕ → Result (List ℕ) DecodeError
value_in (Fixed content exact) n text = if takes content text then Ok text else Err (BadContent n)
value_in (Variable content length_digits most) n text = if takes content text then Ok text else Err (BadContent n)
value_in Binary n text = or_fault (octets text) (BadContent n)

abbrev pub value_as : Row → Option FieldForm → ℕ → List ℕ → Result (List ℕ × List ℕ) DecodeError
value_as row None n bytes = Err (FieldNotInProfile n)
value_as row (Some form) n bytes = do
  text ← field_text_at row form n bytes
  value ← value_in form n text.0
  Ok (value, text.1)

-- the bytes after a field that is not kept
unfoldable pub passed_at : Row → ℕ → List ℕ → Result (List ℕ) DecodeError
passed_at row n bytes = do
  k ← size_at row.size n bytes
  body ← part (byte_count row.coding (scale row.coding * k.0)) k.1
  Ok body.1

-- the field of the message, if it is kept, and the bytes after it
abbrev pub field_by : Bool → Row → ℕ → List ℕ → Result (Fields × List ℕ) DecodeError
field_by true row n bytes = do
  value ← value_as row (form_of n) n bytes
  Ok ((n, value.0) ∷ [], value.1)
field_by false row n bytes = do
  rest ← passed_at row n bytes
  Ok ([], rest)

abbrev pub field_as : Option Row → ℕ → List ℕ → Result (Fields × List ℕ) DecodeError
field_as None n bytes = Err (FieldNotInProfile n)
field_as (Some row) n bytes = field_by row.is_kept row n bytes
