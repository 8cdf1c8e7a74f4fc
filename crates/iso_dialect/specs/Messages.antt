-- The grammar: which bytes spell which message, as another system writes it.
use Rattle.std.specs.Prelude.{◌≡◌, ◌⊎◌, ℕ, List, [], ◌∷◌, ◌++◌, length, Some}
use Rattle.iso_msg.specs.Messages.{Fields, PlainMessage, IsMti}
use Rattle.iso_codec.specs.Digits.{bits_at}
use Rattle.iso_dialect.specs.declared.coding.Coding.{Coding}
use Rattle.iso_dialect.specs.declared.profile.Draft.{Draft}
use Rattle.iso_dialect.specs.Codings.{IsCoded}
use Rattle.iso_dialect.specs.Profiles.{Rows, row_of}
use Rattle.iso_dialect.specs.Fields.{IsField}

-- one bitmap, whose set bits are the numbers of fields; or two, and then bit 1 is set beside them
abbrev pub AreNumbers : Coding → List ℕ → List ℕ → Type 0
AreNumbers coding bytes numbers =
    ((text : List ℕ) × (length text ≡ 16) × IsCoded coding bytes text × (bits_at 1 text ≡ Some numbers))
    ⊎ ((first second one two : List ℕ) × (bytes ≡ first ++ second) × (length one ≡ 16) × IsCoded coding first one
    × (length two ≡ 16) × IsCoded coding second two × (bits_at 1 (one ++ two) ≡ Some (1 ∷ numbers)))

-- fields of these numbers, one after the other, and those of them that are kept
abbrev pub AreFieldsOf : Rows → List ℕ → List ℕ → Fields → Type 0
AreFieldsOf rows [] bytes fields = (bytes ≡ []) × (fields ≡ [])
AreFieldsOf rows (n ∷ ns) bytes fields =
    (one rest : List ℕ) × (kept more : Fields) × (bytes ≡ one ++ rest) × (fields ≡ kept ++ more)
    × IsField (row_of rows n) n one kept × AreFieldsOf rows ns rest more

-- the type, a bitmap or two, and the fields in the order of their numbers, and nothing else
abbrev pub SpellsAs : Draft → List ℕ → PlainMessage → Type 0
SpellsAs profile bytes m =
    (type map rest numbers : List ℕ) × (bytes ≡ type ++ (map ++ rest)) × IsMti m.mti × IsCoded profile.mti type m.mti
    × AreNumbers profile.bitmap map numbers × AreFieldsOf profile.rows numbers rest m.fields
