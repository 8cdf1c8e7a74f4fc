-- The grammar: which bytes spell which message. A message is its type, one bitmap or two, and the
-- texts of its fields in the order of their numbers, and nothing else. Digits of bitmaps and binary
-- fields may have either case, and there may be an empty secondary bitmap; everything else has one spelling.
use Rattle.std.specs.Prelude.{◌≡◌, ◌≤◌, ◌⊎◌, ℕ, true, List, [], ◌∷◌, ◌++◌, length, Option, Some, None}
use Rattle.iso_msg.specs.declared.table.FieldForm.{FieldForm}
use Rattle.iso_msg.specs.declared.table.FieldForm.TheVariants.{Fixed, Variable, Binary}
use Rattle.iso_msg.specs.Table.{form_of}
use Rattle.iso_msg.specs.Values.{takes}
use Rattle.iso_msg.specs.Messages.{Fields, PlainMessage, IsMti, numbers_of}
use Rattle.iso_codec.specs.Digits.{bits_at, octets}
use Rattle.sw_base.specs.Digits.{number_of}

-- The text of a value: the value itself, of its exact length; or the value after as many digits as
-- the form has for its length, which give it; or the sixteen hexadecimal digits of eight bytes.
abbrev pub SpellsValue : Option FieldForm → List ℕ → List ℕ → Type 0
SpellsValue None text value = ⊥
SpellsValue (Some (Fixed content exact)) text value =
    (text ≡ value) × (length value ≡ exact) × (takes content value ≡ true)
SpellsValue (Some (Variable content length_digits most)) text value =
    (digits : List ℕ) × (text ≡ digits ++ value) × (length digits ≡ length_digits) × (number_of digits ≡ Some (length value))
    × (length value ≤ most) × (takes content value ≡ true)
SpellsValue (Some Binary) text value = (length text ≡ 16) × (octets text ≡ Some value)

-- the texts of fields, one after the other
abbrev pub SpellsFields : List ℕ → Fields → Type 0
SpellsFields bytes [] = bytes ≡ []
SpellsFields bytes (field ∷ fields) =
    (text rest : List ℕ) × (bytes ≡ text ++ rest)
    × SpellsValue (form_of field.0) text field.1 × SpellsFields rest fields

-- one bitmap, whose set bits are the numbers of fields; or two, and then bit 1 is set beside them
abbrev pub SpellsNumbers : List ℕ → List ℕ → Type 0
SpellsNumbers text numbers =
    ((length text ≡ 16) × (bits_at 1 text ≡ Some numbers))
    ⊎ ((length text ≡ 32) × (bits_at 1 text ≡ Some (1 ∷ numbers)))

abbrev pub Spells : List ℕ → PlainMessage → Type 0
Spells bytes m =
    (bitmaps rest : List ℕ) × (bytes ≡ m.mti ++ (bitmaps ++ rest)) × IsMti m.mti
    × SpellsNumbers bitmaps (numbers_of m.fields) × SpellsFields rest m.fields
