-- The tables of a profile file: the keys of each, which of them it must have, and what may stand at a key.
use Rattle.std.specs.Prelude.{ℕ, Bool, true, false, List, [], ◌∷◌, codes}
use Rattle.dialect_toml.specs.declared.keys.Section.{Section}
use Rattle.dialect_toml.specs.declared.keys.Section.TheVariants as section
use Rattle.dialect_toml.specs.declared.keys.Key.{Key}
use Rattle.dialect_toml.specs.declared.keys.Key.TheVariants as key
use Rattle.dialect_toml.specs.declared.keys.Want.{Want}
use Rattle.dialect_toml.specs.declared.keys.Want.TheVariants as want

-- ascending by their spelling
abbrev pub keys_of : Section → List Key
keys_of section.Top = key.Field ∷ key.Frame ∷ key.Message ∷ []
keys_of section.Frame = key.CountsItself ∷ key.Header ∷ key.FrameLength ∷ key.Most ∷ []
keys_of section.Message = key.Bitmap ∷ key.Page ∷ key.Type ∷ []
keys_of section.Field = key.Class ∷ key.Keep ∷ key.Length ∷ key.Number ∷ key.Pad ∷ key.PadHalf ∷ []

abbrev pub spelling : Key → List ℕ
spelling key.Field = codes "field"
spelling key.Frame = codes "frame"
spelling key.Message = codes "message"
spelling key.CountsItself = codes "counts_itself"
spelling key.Header = codes "header"
spelling key.FrameLength = codes "length"
spelling key.Most = codes "most"
spelling key.Bitmap = codes "bitmap"
spelling key.Page = codes "page"
spelling key.Type = codes "type"
spelling key.Class = codes "class"
spelling key.Keep = codes "keep"
spelling key.Length = codes "length"
spelling key.Number = codes "number"
spelling key.Pad = codes "pad"
spelling key.PadHalf = codes "pad_half"

abbrev pub wants : Key → Want
wants key.Field = want.Tables
wants key.Frame = want.Table
wants key.Message = want.Table
wants key.CountsItself = want.Flag
wants key.Header = want.Hex 64
wants key.FrameLength = want.FrameLength
wants key.Most = want.Number 1 65535
wants key.Bitmap = want.BitmapClass
wants key.Page = want.PageName
wants key.Type = want.MtiClass
wants key.Class = want.FieldClass
wants key.Keep = want.Flag
wants key.Length = want.Number 1 9999
wants key.Number = want.Number 2 128
wants key.Pad = want.Side
wants key.PadHalf = want.Number 0 15

abbrev pub is_required : Key → Bool
is_required key.Field = true
is_required key.Message = true
is_required key.FrameLength = true
is_required key.Bitmap = true
is_required key.Type = true
is_required key.Class = true
is_required key.Length = true
is_required key.Number = true
is_required k = false
