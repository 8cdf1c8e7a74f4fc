-- The order of reading: from the left, with the first fault that is met. Each part is taken whole,
-- so Short comes before what is wrong with the part.
use Rattle.std.specs.Prelude.{◌≡◌, ℕ, Bool, false, ◌==◌, nat_lt, List, [], ◌∷◌, ◌++◌, length, take, drop, Option, Some, None, Result, Ok, Err, IsOk}
use Rattle.std.specs.Prelude.{if◌then◌else◌}
use Rattle.std.specs.List.{list_all}
use Rattle.iso_msg.specs.declared.table.FieldForm.{FieldForm}
use Rattle.iso_msg.specs.declared.table.FieldForm.TheVariants.{Fixed, Variable, Binary}
use Rattle.iso_msg.specs.Table.{form_of}
use Rattle.iso_msg.specs.Values.{has_content}
use Rattle.iso_msg.specs.Messages.{Fields, PlainMessage}
use Rattle.iso_codec.specs.declared.error.DecodeError.{DecodeError}
use Rattle.iso_codec.specs.declared.error.DecodeError.TheVariants.{Short, BadMti, BadBitmap, FieldNotInProfile, BadLength, BadContent, Trailing, OutOfMemory}
use Rattle.iso_codec.specs.Digits.{bits_at, octets}
use Rattle.sw_base.specs.Digits.{is_digit, number_of}

-- the next step, where there was no fault
infixl 10 ◌>>=◌
abbrev pub ◌>>=◌ : {A B : Type 0} → Result A DecodeError → (A → Result B DecodeError) → Result B DecodeError
(Ok x) >>= f = f x
(Err e) >>= f = Err e

-- what there is, or else a fault
abbrev pub or_fault : {A : Type 0} → Option A → DecodeError → Result A DecodeError
or_fault None e = Err e
or_fault (Some x) e = Ok x

-- this many bytes, and those after them
abbrev pub part : ℕ → List ℕ → Result (List ℕ × List ℕ) DecodeError
part count bytes = if nat_lt (length bytes) count then Err Short else Ok (take count bytes, drop count bytes)

-- the type, if these are digits
abbrev pub mti_is : List ℕ → Result (List ℕ) DecodeError
mti_is digits = if list_all is_digit digits then Ok digits else Err BadMti

-- the numbers of a bitmap's set bits
unfoldable pub bitmap_at : ℕ → List ℕ → Result (List ℕ × List ℕ) DecodeError
bitmap_at n bytes = do
  text ← part 16 bytes
  ns ← or_fault (bits_at n text.0) BadBitmap
  Ok (ns, text.1)

-- bit 1 is set, so there is a second bitmap
abbrev pub starts_with_1 : List ℕ → Bool
starts_with_1 [] = false
starts_with_1 (n ∷ ns) = n == 1

-- the numbers of the set bits of the bitmaps: there is a second one where bit 1 is set
unfoldable pub bitmaps_at : List ℕ → Result (List ℕ × List ℕ) DecodeError
bitmaps_at bytes = do
  first ← bitmap_at 1 bytes
  if starts_with_1 first.0
      then (bitmap_at 65 first.1 >>= λ second. Ok (first.0 ++ second.0, second.1))
      else Ok first

-- bit 1 is no field
abbrev pub field_numbers : List ℕ → List ℕ
field_numbers ns = if starts_with_1 ns then drop 1 ns else ns

-- each number is one of the profile, or the first that isn't is reported
unfoldable pub known : List ℕ → Result (Unit {0}) DecodeError
known [] = Ok tt
known (n ∷ ns) = or_fault (form_of n) (FieldNotInProfile n) >>= λ form. known ns

-- the digits of the type, the numbers of the fields and the bytes of the fields
unfoldable pub front_at : List ℕ → Result (List ℕ × List ℕ × List ℕ) DecodeError
front_at bytes = do
  front ← part 4 bytes
  mti ← mti_is front.0
  ns ← bitmaps_at front.1
  ok ← known (field_numbers ns.0)
  Ok (front.0, field_numbers ns.0, ns.1)

-- a text after the digits of its length
unfoldable pub after_length : ℕ → ℕ → ℕ → List ℕ → Result (List ℕ × List ℕ) DecodeError
after_length length_digits most n bytes = do
  digits ← part length_digits bytes
  len ← or_fault (number_of digits.0) (BadLength n)
  if nat_lt most len then Err (BadLength n) else part len digits.1

-- eight bytes, from their sixteen digits
unfoldable pub octets_at : ℕ → List ℕ → Result (List ℕ × List ℕ) DecodeError
octets_at n bytes = do
  text ← part 16 bytes
  value ← or_fault (octets text.0) (BadContent n)
  Ok (value, text.1)

-- a value of a field's form, whatever its bytes
abbrev pub text_at : FieldForm → ℕ → List ℕ → Result (List ℕ × List ℕ) DecodeError
text_at (Fixed content exact) n bytes = part exact bytes
text_at (Variable content length_digits most) n bytes = after_length length_digits most n bytes
text_at Binary n bytes = octets_at n bytes

-- the value of a field
abbrev pub field_at : Option FieldForm → ℕ → List ℕ → Result (List ℕ × List ℕ) DecodeError
field_at None n bytes = Err (FieldNotInProfile n)
field_at (Some form) n bytes = do
  value ← text_at form n bytes
  if has_content form value.0 then Ok value else Err (BadContent n)

-- the fields of these numbers, and the bytes after them
unfoldable pub fields_at : List ℕ → List ℕ → Result (Fields × List ℕ) DecodeError
fields_at [] bytes = Ok ([], bytes)
fields_at (n ∷ ns) bytes = do
  value ← field_at (form_of n) n bytes
  fields ← fields_at ns value.1
  Ok ((n, value.0) ∷ fields.0, fields.1)

-- the message of all the bytes, or the first fault: the type, the bitmaps, the numbers, the fields,
-- and what is left over
unfoldable pub read : List ℕ → Result PlainMessage DecodeError
read bytes = do
  front ← part 4 bytes
  mti ← mti_is front.0
  ns ← bitmaps_at front.1
  ok ← known (field_numbers ns.0)
  fields ← fields_at (field_numbers ns.0) ns.1
  if length fields.1 == 0 then Ok (record { mti = mti; fields = fields.0 }) else Err Trailing

-- What decoding answers: the message or the first fault of the bytes, and out of memory only where
-- they have no fault.
abbrev pub Answers : Result PlainMessage DecodeError → Result PlainMessage DecodeError → Type 0
Answers (Ok m) reading = reading ≡ Ok m
Answers (Err OutOfMemory) reading = IsOk reading
Answers (Err e) reading = reading ≡ Err e

-- What a step that takes no memory returned, seen by view, is what reading gives.
abbrev pub Exactly : {X Y : Type 0} → (X → Y) → Result X DecodeError → Result Y DecodeError → Type 0
Exactly view (Ok x) reading = reading ≡ Ok (view x)
Exactly view (Err e) reading = reading ≡ Err e

-- The same, unless memory was refused.
abbrev pub Fails : {Y : Type 0} → DecodeError → Result Y DecodeError → Type 0
Fails OutOfMemory reading = Unit {0}
Fails e reading = reading ≡ Err e

-- what a step that takes memory returned, seen by view, is what reading gives, unless memory was refused
abbrev pub GivesMessage : {X Y : Type 0} → (X → Y) → Result X DecodeError → Result Y DecodeError → Type 0
GivesMessage view (Ok x) reading = reading ≡ Ok (view x)
GivesMessage view (Err e) reading = Fails e reading

-- numbers before those that are read
abbrev pub preceded_by : List ℕ → Result (List ℕ × List ℕ) DecodeError → Result (List ℕ × List ℕ) DecodeError
preceded_by front r = r >>= λ x. Ok (front ++ x.0, x.1)

-- the same where there are numbers
abbrev pub put_before : List ℕ → Option (List ℕ) → Option (List ℕ)
put_before front None = None
put_before front (Some ns) = Some (front ++ ns)

-- The same reading without its values, for looking bytes over.

abbrev pub content_is : FieldForm → ℕ → List ℕ → Result (Unit {0}) DecodeError
content_is form n value = if has_content form value then Ok tt else Err (BadContent n)

-- the bytes after a field of this form
abbrev pub form_over : FieldForm → ℕ → List ℕ → Result (List ℕ) DecodeError
form_over form n bytes = text_at form n bytes >>= λ value. content_is form n value.0 >>= λ ok. Ok value.1

abbrev pub field_over : Option FieldForm → ℕ → List ℕ → Result (List ℕ) DecodeError
field_over None n bytes = Err (FieldNotInProfile n)
field_over (Some form) n bytes = form_over form n bytes

unfoldable pub fields_over : List ℕ → List ℕ → Result (List ℕ) DecodeError
fields_over [] bytes = Ok bytes
fields_over (n ∷ ns) bytes = field_over (form_of n) n bytes >>= λ rest. fields_over ns rest

-- the type alone
unfoldable pub read_over : List ℕ → Result (List ℕ) DecodeError
read_over bytes = do
  front ← front_at bytes
  rest ← fields_over front.1 front.2
  if length rest == 0 then Ok front.0 else Err Trailing

-- the type of the message that was read, if one was
abbrev pub type_of : Result PlainMessage DecodeError → Option (List ℕ)
type_of (Ok m) = Some m.mti
type_of (Err e) = None
