-- The words of a profile file: how each is spelled, and which there are.
use Rattle.std.specs.Prelude.{ℕ, List, [], ◌∷◌, Option, codes, find}
use Rattle.std.specs.Str.{bytes_eq}
use Rattle.dialect_toml.specs.declared.words.FrameLength.{FrameLength}
use Rattle.dialect_toml.specs.declared.words.FrameLength.TheVariants as frame
use Rattle.dialect_toml.specs.declared.words.MtiClass.{MtiClass}
use Rattle.dialect_toml.specs.declared.words.MtiClass.TheVariants as mti
use Rattle.dialect_toml.specs.declared.words.BitmapClass.{BitmapClass}
use Rattle.dialect_toml.specs.declared.words.BitmapClass.TheVariants as bitmap
use Rattle.dialect_toml.specs.declared.words.PageName.{PageName}
use Rattle.dialect_toml.specs.declared.words.PageName.TheVariants as page
use Rattle.dialect_toml.specs.declared.words.Side.{Side}
use Rattle.dialect_toml.specs.declared.words.Side.TheVariants as at
use Rattle.dialect_toml.specs.declared.words.FieldClass.{FieldClass}
use Rattle.dialect_toml.specs.declared.words.FieldClass.TheVariants as class

-- the word that is spelled so, of several
abbrev pub word_in : {W : Type 0} → (W → List ℕ) → List W → List ℕ → Option W
word_in spelling words text = find (λ w. bytes_eq (spelling w) text) words

abbrev pub frame_length : FrameLength → List ℕ
frame_length frame.Ascii4 = codes "ascii4"
frame_length frame.Binary2 = codes "binary2"
frame_length frame.Binary4 = codes "binary4"
frame_length frame.Packed2 = codes "packed2"

abbrev pub frame_lengths : List FrameLength
frame_lengths = frame.Ascii4 ∷ frame.Binary2 ∷ frame.Binary4 ∷ frame.Packed2 ∷ []

abbrev pub mti_class : MtiClass → List ℕ
mti_class mti.IfaNumeric = codes "IFA_NUMERIC"
mti_class mti.IfbNumeric = codes "IFB_NUMERIC"
mti_class mti.IfeNumeric = codes "IFE_NUMERIC"

abbrev pub mti_classes : List MtiClass
mti_classes = mti.IfaNumeric ∷ mti.IfbNumeric ∷ mti.IfeNumeric ∷ []

abbrev pub bitmap_class : BitmapClass → List ℕ
bitmap_class bitmap.IfaBitmap = codes "IFA_BITMAP"
bitmap_class bitmap.IfbBitmap = codes "IFB_BITMAP"
bitmap_class bitmap.IfeBitmap = codes "IFE_BITMAP"

abbrev pub bitmap_classes : List BitmapClass
bitmap_classes = bitmap.IfaBitmap ∷ bitmap.IfbBitmap ∷ bitmap.IfeBitmap ∷ []

abbrev pub page_name : PageName → List ℕ
page_name page.Cp037 = codes "cp037"
page_name page.Cp1047 = codes "cp1047"

abbrev pub page_names : List PageName
page_names = page.Cp037 ∷ page.Cp1047 ∷ []

abbrev pub side : Side → List ℕ
side at.Left = codes "left"
side at.Right = codes "right"

abbrev pub sides : List Side
sides = at.Left ∷ at.Right ∷ []

abbrev pub field_class : FieldClass → List ℕ
field_class class.IfChar = codes "IF_CHAR"
field_class class.IfaNumeric = codes "IFA_NUMERIC"
field_class class.IfaLlNum = codes "IFA_LLNUM"
field_class class.IfaLllNum = codes "IFA_LLLNUM"
field_class class.IfaLlChar = codes "IFA_LLCHAR"
field_class class.IfaLllChar = codes "IFA_LLLCHAR"
field_class class.IfaBinary = codes "IFA_BINARY"
field_class class.IfaLlBinary = codes "IFA_LLBINARY"
field_class class.IfaLllBinary = codes "IFA_LLLBINARY"
field_class class.IfaAmount = codes "IFA_AMOUNT"
field_class class.IfbNumeric = codes "IFB_NUMERIC"
field_class class.IfbLlNum = codes "IFB_LLNUM"
field_class class.IfbLllNum = codes "IFB_LLLNUM"
field_class class.IfbLlChar = codes "IFB_LLCHAR"
field_class class.IfbLllChar = codes "IFB_LLLCHAR"
field_class class.IfbLlhNum = codes "IFB_LLHNUM"
field_class class.IfbLlhChar = codes "IFB_LLHCHAR"
field_class class.IfbLlhEchar = codes "IFB_LLHECHAR"
field_class class.IfbLlhBinary = codes "IFB_LLHBINARY"
field_class class.IfbLllhChar = codes "IFB_LLLHCHAR"
field_class class.IfbLllhEchar = codes "IFB_LLLHECHAR"
field_class class.IfbLllhBinary = codes "IFB_LLLHBINARY"
field_class class.IfbBinary = codes "IFB_BINARY"
field_class class.IfbLlBinary = codes "IFB_LLBINARY"
field_class class.IfbLllBinary = codes "IFB_LLLBINARY"
field_class class.IfbAmount = codes "IFB_AMOUNT"
field_class class.IfeChar = codes "IFE_CHAR"
field_class class.IfeNumeric = codes "IFE_NUMERIC"
field_class class.IfeLlNum = codes "IFE_LLNUM"
field_class class.IfeLllNum = codes "IFE_LLLNUM"
field_class class.IfeLlChar = codes "IFE_LLCHAR"
field_class class.IfeLllChar = codes "IFE_LLLCHAR"

unfoldable pub field_classes : List FieldClass
field_classes = class.IfChar ∷ class.IfaNumeric ∷ class.IfaLlNum ∷ class.IfaLllNum ∷ class.IfaLlChar ∷ class.IfaLllChar ∷ class.IfaBinary ∷
    class.IfaLlBinary ∷ class.IfaLllBinary ∷ class.IfaAmount ∷ class.IfbNumeric ∷ class.IfbLlNum ∷ class.IfbLllNum ∷ class.IfbLlChar ∷
    class.IfbLllChar ∷ class.IfbLlhNum ∷ class.IfbLlhChar ∷ class.IfbLlhEchar ∷ class.IfbLlhBinary ∷ class.IfbLllhChar ∷
    class.IfbLllhEchar ∷ class.IfbLllhBinary ∷ class.IfbBinary ∷ class.IfbLlBinary ∷ class.IfbLllBinary ∷ class.IfbAmount ∷ class.IfeChar ∷
    class.IfeNumeric ∷ class.IfeLlNum ∷ class.IfeLllNum ∷ class.IfeLlChar ∷ class.IfeLllChar ∷ []
