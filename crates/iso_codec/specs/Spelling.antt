-- The one spelling that is written: hexadecimal digits in upper case, and a secondary bitmap only
-- where there is a field above 64.
use Rattle.std.specs.Prelude.{ℕ, zero, suc, ◌+◌, ◌*◌, ◌/◌, ◌%◌, ◌==◌, nat_lt, List, [], ◌∷◌, ◌++◌, length, Option, Some, None, if◌then◌else◌}
use Rattle.std.specs.List.{flat_map, list_any}
use Rattle.iso_msg.specs.declared.table.FieldForm.{FieldForm}
use Rattle.iso_msg.specs.declared.table.FieldForm.TheVariants.{Fixed, Variable, Binary}
use Rattle.iso_msg.specs.Table.{form_of}
use Rattle.iso_msg.specs.Messages.{PlainMessage, numbers_of}

-- a hexadecimal digit
abbrev pub upper : ℕ → ℕ
upper d = if nat_lt d 10 then 48 + d else 55 + d

-- 1 where the number is one of these, and otherwise 0
abbrev pub bit_in : List ℕ → ℕ → ℕ
bit_in ns n = if list_any (λ m. m == n) ns then 1 else 0

-- the digit for four numbers from n on
abbrev pub digit_in : List ℕ → ℕ → ℕ
digit_in ns n = 8 * bit_in ns n + 4 * bit_in ns (n + 1) + 2 * bit_in ns (n + 2) + bit_in ns (n + 3)

-- this many digits of a bitmap, whose first bit has number n
unfoldable pub bitmap : List ℕ → ℕ → ℕ → List ℕ
bitmap ns n zero = []
bitmap ns n (suc digits) = upper (digit_in ns n) ∷ bitmap ns (n + 4) digits

-- bit 1 tells of a second bitmap
abbrev pub bitmaps : List ℕ → List ℕ
bitmaps ns = if list_any (λ n. nat_lt 64 n) ns then bitmap (1 ∷ ns) 1 32 else bitmap ns 1 16

-- a length of two or three decimal digits
abbrev pub decimal : ℕ → ℕ → List ℕ
decimal length_digits n = (if length_digits == 3 then (48 + n / 100) ∷ [] else []) ++ ((48 + n / 10 % 10) ∷ (48 + n % 10) ∷ [])

abbrev pub hex : ℕ → List ℕ
hex b = upper (b / 16) ∷ upper (b % 16) ∷ []

-- LLVAR and LLLVAR have the length before the value, and b has two digits for each byte
abbrev pub text_of : Option FieldForm → List ℕ → List ℕ
text_of None value = []
text_of (Some (Fixed content exact)) value = value
text_of (Some (Variable content length_digits most)) value = decimal length_digits (length value) ++ value
text_of (Some Binary) value = flat_map hex value

abbrev pub field_text : ℕ × List ℕ → List ℕ
field_text field = text_of (form_of field.0) field.1

abbrev pub spelling : PlainMessage → List ℕ
spelling m = m.mti ++ (bitmaps (numbers_of m.fields) ++ flat_map field_text m.fields)
