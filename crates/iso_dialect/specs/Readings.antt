-- The order of reading a message: from the left, with the first fault that is met, as in the ASCII profile.
use Rattle.std.specs.Prelude.{ℕ, ◌==◌, Bool, true, false, List, [], ◌∷◌, ◌++◌, length, Option, Some, None, Result, Ok, Err, if◌then◌else◌}
use Rattle.iso_msg.specs.declared.table.FieldForm.{FieldForm}
use Rattle.iso_msg.specs.Table.{form_of}
use Rattle.iso_msg.specs.Messages.{Fields, PlainMessage}
use Rattle.iso_codec.specs.declared.error.DecodeError.{DecodeError}
use Rattle.iso_codec.specs.declared.error.DecodeError.TheVariants.{BadMti, BadBitmap, FieldNotInProfile, Trailing}
use Rattle.iso_codec.specs.Digits.{bits_at}
use Rattle.iso_codec.specs.GrowingMessage.{with_field}
use Rattle.iso_codec.specs.Reads.{◌>>=◌, or_fault, mti_is, starts_with_1, field_numbers}
use Rattle.iso_dialect.specs.declared.coding.Coding.{Coding}
use Rattle.iso_dialect.specs.declared.row.Row.{Row}
use Rattle.iso_dialect.specs.declared.profile.Draft.{Draft}
use Rattle.iso_dialect.specs.Profiles.{Rows, row_of}
use Rattle.iso_dialect.specs.Fields.{coded_at, field_as, field_text_at, passed_at, value_in}

-- the numbers of a bitmap's set bits
unfoldable pub bitmap_as : Coding → ℕ → List ℕ → Result (List ℕ × List ℕ) DecodeError
bitmap_as coding n bytes = do
  text ← coded_at coding 16 BadBitmap bytes
  ns ← or_fault (bits_at n text.0) BadBitmap
  Ok (ns, text.1)

-- the numbers of the set bits of the bitmaps: there is a second one where bit 1 is set
unfoldable pub bitmaps_as : Coding → List ℕ → Result (List ℕ × List ℕ) DecodeError
bitmaps_as coding bytes = do
  first ← bitmap_as coding 1 bytes
  if starts_with_1 first.0
      then (bitmap_as coding 65 first.1 >>= λ second. Ok (first.0 ++ second.0, second.1))
      else Ok first

-- each number has a row, or the first that has none is reported
unfoldable pub known_as : Rows → List ℕ → Result (Unit {0}) DecodeError
known_as rows [] = Ok tt
known_as rows (n ∷ ns) = or_fault (row_of rows n) (FieldNotInProfile n) >>= λ row. known_as rows ns

-- the digits of the type, the numbers of the fields and the bytes of the fields
unfoldable pub front_as : Draft → List ℕ → Result (List ℕ × List ℕ × List ℕ) DecodeError
front_as profile bytes = do
  digits ← coded_at profile.mti 4 BadMti bytes
  mti ← mti_is digits.0
  ns ← bitmaps_as profile.bitmap digits.1
  ok ← known_as profile.rows (field_numbers ns.0)
  Ok (mti, field_numbers ns.0, ns.1)

-- the fields of these numbers that are kept, and the bytes after all of them
unfoldable pub fields_as : Rows → List ℕ → List ℕ → Result (Fields × List ℕ) DecodeError
fields_as rows [] bytes = Ok ([], bytes)
fields_as rows (n ∷ ns) bytes = do
  field ← field_as (row_of rows n) n bytes
  fields ← fields_as rows ns field.1
  Ok (field.0 ++ fields.0, fields.1)

-- The message of all the bytes, or the first fault: the type, the bitmaps, the numbers, then each field's number of
-- characters, its text and its content, and last what is left over.
unfoldable pub read_as : Draft → List ℕ → Result PlainMessage DecodeError
read_as profile bytes = do
  front ← front_as profile bytes
  fields ← fields_as profile.rows front.1 front.2
  if length fields.1 == 0 then Ok (record { mti = front.0; fields = fields.0 }) else Err Trailing

-- The same reading over a message that grows by each field, for the contracts of the reader's own steps.

-- the message with the value of a text
abbrev pub placed_as : FieldForm → PlainMessage → ℕ → List ℕ → Result PlainMessage DecodeError
placed_as form m n text = value_in form n text >>= λ value. Ok (with_field m n value)

abbrev pub grown_value : Row → Option FieldForm → PlainMessage → ℕ → List ℕ → Result (PlainMessage × List ℕ) DecodeError
grown_value row None m n bytes = Err (FieldNotInProfile n)
grown_value row (Some form) m n bytes = field_text_at row form n bytes >>= λ text. placed_as form m n text.0 >>= λ more. Ok (more, text.1)

abbrev pub grown_by : Bool → Row → PlainMessage → ℕ → List ℕ → Result (PlainMessage × List ℕ) DecodeError
grown_by true row m n bytes = grown_value row (form_of n) m n bytes
grown_by false row m n bytes = passed_at row n bytes >>= λ rest. Ok (m, rest)

-- the message with the field that the bytes begin with, and the bytes after it
abbrev pub grown_as : Option Row → PlainMessage → ℕ → List ℕ → Result (PlainMessage × List ℕ) DecodeError
grown_as None m n bytes = Err (FieldNotInProfile n)
grown_as (Some row) m n bytes = grown_by row.is_kept row m n bytes

unfoldable pub added_as : Rows → PlainMessage → List ℕ → List ℕ → Result (PlainMessage × List ℕ) DecodeError
added_as rows m [] bytes = Ok (m, bytes)
added_as rows m (n ∷ ns) bytes = grown_as (row_of rows n) m n bytes >>= λ x. added_as rows x.0 ns x.1

unfoldable pub read_grown : Draft → List ℕ → Result PlainMessage DecodeError
read_grown profile bytes = do
  front ← front_as profile bytes
  x ← added_as profile.rows (record { mti = front.0; fields = [] }) front.1 front.2
  if length x.1 == 0 then Ok x.0 else Err Trailing

-- The same reading without its values, for looking bytes over.

abbrev pub value_is : FieldForm → ℕ → List ℕ → Result (Unit {0}) DecodeError
value_is form n text = value_in form n text >>= λ value. Ok tt

abbrev pub value_over : Row → Option FieldForm → ℕ → List ℕ → Result (List ℕ) DecodeError
value_over row None n bytes = Err (FieldNotInProfile n)
value_over row (Some form) n bytes = field_text_at row form n bytes >>= λ text. value_is form n text.0 >>= λ ok. Ok text.1

abbrev pub over_by : Bool → Row → ℕ → List ℕ → Result (List ℕ) DecodeError
over_by true row n bytes = value_over row (form_of n) n bytes
over_by false row n bytes = passed_at row n bytes

abbrev pub field_over : Option Row → ℕ → List ℕ → Result (List ℕ) DecodeError
field_over None n bytes = Err (FieldNotInProfile n)
field_over (Some row) n bytes = over_by row.is_kept row n bytes

unfoldable pub fields_over : Rows → List ℕ → List ℕ → Result (List ℕ) DecodeError
fields_over rows [] bytes = Ok bytes
fields_over rows (n ∷ ns) bytes = field_over (row_of rows n) n bytes >>= λ rest. fields_over rows ns rest

unfoldable pub read_over : Draft → List ℕ → Result (Unit {0}) DecodeError
read_over profile bytes = do
  front ← front_as profile bytes
  rest ← fields_over profile.rows front.1 front.2
  if length rest == 0 then Ok tt else Err Trailing
