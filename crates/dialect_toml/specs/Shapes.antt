-- What the words mean: how each class writes, and how it counts.
use Rattle.std.specs.Prelude.{ℕ, ◌+◌, ◌*◌, ◌/◌, Bool, true, false}
use Rattle.iso_dialect.specs.declared.coding.Page.{Page}
use Rattle.iso_dialect.specs.declared.coding.Page.TheVariants.{Cp037, Cp1047}
use Rattle.iso_dialect.specs.declared.coding.Coding.{Coding}
use Rattle.iso_dialect.specs.declared.coding.Coding.TheVariants as coding
use Rattle.iso_dialect.specs.declared.row.Count.TheVariants as count
use Rattle.iso_dialect.specs.declared.row.Size.{Size}
use Rattle.iso_dialect.specs.declared.row.Size.TheVariants.{Exact, Counted}
use Rattle.dialect_toml.specs.declared.words.MtiClass.{MtiClass}
use Rattle.dialect_toml.specs.declared.words.MtiClass.TheVariants as mti
use Rattle.dialect_toml.specs.declared.words.BitmapClass.{BitmapClass}
use Rattle.dialect_toml.specs.declared.words.BitmapClass.TheVariants as bitmap
use Rattle.dialect_toml.specs.declared.words.PageName.{PageName}
use Rattle.dialect_toml.specs.declared.words.PageName.TheVariants as page
use Rattle.dialect_toml.specs.declared.words.FieldClass.{FieldClass}
use Rattle.dialect_toml.specs.declared.words.FieldClass.TheVariants as class
use Rattle.dialect_toml.specs.declared.words.Lead.{Lead}
use Rattle.dialect_toml.specs.declared.words.Lead.TheVariants as lead
use Rattle.dialect_toml.specs.declared.words.Kind.{Kind}
use Rattle.dialect_toml.specs.declared.words.Kind.TheVariants as kind

abbrev pub page_by : PageName → Page
page_by page.Cp037 = Cp037
page_by page.Cp1047 = Cp1047

abbrev pub mti_coding : MtiClass → Page → Coding
mti_coding mti.IfaNumeric p = coding.Ascii
mti_coding mti.IfbNumeric p = coding.Packed false 0
mti_coding mti.IfeNumeric p = coding.Ebcdic p

abbrev pub bitmap_coding : BitmapClass → Page → Coding
bitmap_coding bitmap.IfaBitmap p = coding.Ascii
bitmap_coding bitmap.IfbBitmap p = coding.Octets
bitmap_coding bitmap.IfeBitmap p = coding.Ebcdic p

-- what stands before a value of the class: a number of two digits (LL) or three (LLL), or one byte (LLH) or two (LLLH)
abbrev pub lead_of : FieldClass → Lead
lead_of class.IfChar = lead.Nothing
lead_of class.IfaNumeric = lead.Nothing
lead_of class.IfaLlNum = lead.Ascii 2
lead_of class.IfaLllNum = lead.Ascii 3
lead_of class.IfaLlChar = lead.Ascii 2
lead_of class.IfaLllChar = lead.Ascii 3
lead_of class.IfaBinary = lead.Nothing
lead_of class.IfaLlBinary = lead.Ascii 2
lead_of class.IfaLllBinary = lead.Ascii 3
lead_of class.IfaAmount = lead.Nothing
lead_of class.IfbNumeric = lead.Nothing
lead_of class.IfbLlNum = lead.Packed 2
lead_of class.IfbLllNum = lead.Packed 3
lead_of class.IfbLlChar = lead.Packed 2
lead_of class.IfbLllChar = lead.Packed 3
lead_of class.IfbLlhNum = lead.Byte
lead_of class.IfbLlhChar = lead.Byte
lead_of class.IfbLlhEchar = lead.Byte
lead_of class.IfbLlhBinary = lead.Byte
lead_of class.IfbLllhChar = lead.TwoBytes
lead_of class.IfbLllhEchar = lead.TwoBytes
lead_of class.IfbLllhBinary = lead.TwoBytes
lead_of class.IfbBinary = lead.Nothing
lead_of class.IfbLlBinary = lead.Packed 2
lead_of class.IfbLllBinary = lead.Packed 3
lead_of class.IfbAmount = lead.Nothing
lead_of class.IfeChar = lead.Nothing
lead_of class.IfeNumeric = lead.Nothing
lead_of class.IfeLlNum = lead.Ebcdic 2
lead_of class.IfeLllNum = lead.Ebcdic 3
lead_of class.IfeLlChar = lead.Ebcdic 2
lead_of class.IfeLllChar = lead.Ebcdic 3

-- how a value of the class is written
abbrev pub kind_of : FieldClass → Kind
kind_of class.IfChar = kind.Ascii
kind_of class.IfaNumeric = kind.Ascii
kind_of class.IfaLlNum = kind.Ascii
kind_of class.IfaLllNum = kind.Ascii
kind_of class.IfaLlChar = kind.Ascii
kind_of class.IfaLllChar = kind.Ascii
kind_of class.IfaBinary = kind.Hex
kind_of class.IfaLlBinary = kind.Octets
kind_of class.IfaLllBinary = kind.Octets
kind_of class.IfaAmount = kind.SignedAscii
kind_of class.IfbNumeric = kind.Packed
kind_of class.IfbLlNum = kind.Packed
kind_of class.IfbLllNum = kind.Packed
kind_of class.IfbLlChar = kind.Ascii
kind_of class.IfbLllChar = kind.Ascii
kind_of class.IfbLlhNum = kind.Packed
kind_of class.IfbLlhChar = kind.Ascii
kind_of class.IfbLlhEchar = kind.Ebcdic
kind_of class.IfbLlhBinary = kind.Octets
kind_of class.IfbLllhChar = kind.Ascii
kind_of class.IfbLllhEchar = kind.Ebcdic
kind_of class.IfbLllhBinary = kind.Octets
kind_of class.IfbBinary = kind.Octets
kind_of class.IfbLlBinary = kind.Octets
kind_of class.IfbLllBinary = kind.Octets
kind_of class.IfbAmount = kind.SignedPacked
kind_of class.IfeChar = kind.Ebcdic
kind_of class.IfeNumeric = kind.Ebcdic
kind_of class.IfeLlNum = kind.Ebcdic
kind_of class.IfeLllNum = kind.Ebcdic
kind_of class.IfeLlChar = kind.Ebcdic
kind_of class.IfeLllChar = kind.Ebcdic

-- an odd number of digits is padded
abbrev pub is_padded : Kind → Bool
is_padded kind.Packed = true
is_padded k = false

-- an amount with a sign, which the switch does not have
abbrev pub is_signed : Kind → Bool
is_signed kind.SignedAscii = true
is_signed kind.SignedPacked = true
is_signed k = false

-- the coding of a value, with the side and the half of a pad
abbrev pub coding_by : Kind → Page → Bool → ℕ → Coding
coding_by kind.Ascii p on_right half = coding.Ascii
coding_by kind.Ebcdic p on_right half = coding.Ebcdic p
coding_by kind.Packed p on_right half = coding.Packed on_right half
coding_by kind.Octets p on_right half = coding.Octets
coding_by kind.Hex p on_right half = coding.Ascii
coding_by kind.SignedAscii p on_right half = coding.Ascii
coding_by kind.SignedPacked p on_right half = coding.Octets

-- how many characters a length stands for: two for a byte in hexadecimal; of a packed amount the bytes of its sign and of its digits,
-- of which the length counts the sign too
abbrev pub units : Kind → ℕ → ℕ
units kind.Hex n = 2 * n
units kind.SignedPacked n = 1 + n / 2
units k n = n

-- how many a length allows, with what stands before the value
abbrev pub size_by : Lead → Page → ℕ → Size
size_by lead.Nothing p n = Exact n
size_by (lead.Ascii digits) p n = Counted (count.Digits coding.Ascii digits) n
size_by (lead.Ebcdic digits) p n = Counted (count.Digits (coding.Ebcdic p) digits) n
size_by (lead.Packed digits) p n = Counted (count.Digits (coding.Packed false 0) digits) n
size_by lead.Byte p n = Counted count.Byte n
size_by lead.TwoBytes p n = Counted count.TwoBytes n
