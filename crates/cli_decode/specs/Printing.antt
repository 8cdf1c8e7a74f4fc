-- What is printed of a message while it is read, field by field, for the contracts of the steps.
use Rattle.std.specs.Prelude.{ℕ, ◌==◌, List, [], ◌∷◌, ◌++◌, length, Option, Some, None, Result, Ok, Err, codes, if◌then◌else◌}
use Rattle.iso_msg.specs.declared.table.FieldForm.{FieldForm}
use Rattle.iso_msg.specs.Table.{form_of}
use Rattle.iso_codec.specs.declared.error.DecodeError.{DecodeError}
use Rattle.iso_codec.specs.declared.error.DecodeError.TheVariants.{FieldNotInProfile, Trailing}
use Rattle.iso_codec.specs.Reads.{◌>>=◌, text_at, content_is, front_at, read}
use Rattle.std.specs.Fmt.{decimal}
use Rattle.cli_decode.specs.Decoded.{header_line, line_by, view_text}
use Rattle.cli_forms.specs.declared.masking.Masking.{Masking}

-- a text with the line of a value that the field takes, and the bytes after it
abbrev pub with_value : Masking → FieldForm → List ℕ → ℕ → List ℕ × List ℕ → Result (List ℕ × List ℕ) DecodeError
with_value k form text n value = content_is form n value.0 >>= λ ok. Ok (text ++ line_by k (Some form) n value.0, value.1)

-- a text with the line of the field at the front, and the bytes after that field
abbrev pub with_form : Masking → FieldForm → List ℕ → ℕ → List ℕ → Result (List ℕ × List ℕ) DecodeError
with_form k form text n bytes = text_at form n bytes >>= with_value k form text n

abbrev pub with_field : Masking → Option FieldForm → List ℕ → ℕ → List ℕ → Result (List ℕ × List ℕ) DecodeError
with_field k None text n bytes = Err (FieldNotInProfile n)
with_field k (Some form) text n bytes = with_form k form text n bytes

-- a text with the lines of the fields of these numbers, and the bytes after them
unfoldable pub with_fields : Masking → List ℕ → List ℕ → List ℕ → Result (List ℕ × List ℕ) DecodeError
with_fields k text [] bytes = Ok (text, bytes)
with_fields k text (n ∷ ns) bytes = with_field k (form_of n) text n bytes >>= λ x. with_fields k x.0 ns x.1

-- a text with the type and the fields of a message
unfoldable pub with_message : Masking → List ℕ → List ℕ → Result (List ℕ) DecodeError
with_message k text bytes = do
  front ← front_at bytes
  x ← with_fields k ((text ++ front.0) ++ codes "\n") front.1 front.2
  if length x.1 == 0 then Ok x.0 else Err Trailing

-- the text of the message that bytes spell, after its header
abbrev pub paragraph_of : Masking → ℕ → List ℕ → List ℕ → Result (List ℕ) DecodeError
paragraph_of k n header bytes = read bytes >>= λ m. Ok (view_text k n header m)

-- the lines before a message's type
abbrev pub opening_of : ℕ → List ℕ → List ℕ
opening_of n header = codes "message " ++ (decimal n ++ (codes "\n" ++ header_line header))
