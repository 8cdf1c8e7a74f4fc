-- Looking over bytes of the ASCII profile: the reading of `iso_codec` with whether each field can be written in place of its value.
use Rattle.std.specs.Prelude.{ℕ, ◌==◌, Bool, not, List, [], ◌∷◌, length, Option, Some, None, Result, Ok, Err, if◌then◌else◌}
use Rattle.sw_base.specs.Refusals.{or_else, refused_if}
use Rattle.iso_msg.specs.declared.table.FieldForm.{FieldForm}
use Rattle.iso_msg.specs.Table.{form_of}
use Rattle.iso_codec.specs.declared.error.DecodeError.{DecodeError}
use Rattle.iso_codec.specs.declared.error.DecodeError.TheVariants.{FieldNotInProfile, Trailing}
use Rattle.iso_codec.specs.Reads.{◌>>=◌, content_is, front_at, text_at}
use Rattle.iso_dialect.specs.declared.row.Row.{Row}
use Rattle.iso_dialect.specs.Profiles.{Rows, row_of}
use Rattle.iso_dialect.specs.Writings.{can_write}

-- whether a field of this form can be written, and the bytes after it
abbrev pub looked_form : Option Row → FieldForm → ℕ → List ℕ → Result (Bool × List ℕ) DecodeError
looked_form row form n bytes = text_at form n bytes >>= λ value. content_is form n value.0 >>= λ ok. Ok (can_write row (Some form) value.0, value.1)

abbrev pub looked_field : Option Row → Option FieldForm → ℕ → List ℕ → Result (Bool × List ℕ) DecodeError
looked_field row None n bytes = Err (FieldNotInProfile n)
looked_field row (Some form) n bytes = looked_form row form n bytes

-- the first field that cannot be written, after those that were looked at
unfoldable pub looked_fields : Rows → Option ℕ → List ℕ → List ℕ → Result (Option ℕ × List ℕ) DecodeError
looked_fields rows first [] bytes = Ok (first, bytes)
looked_fields rows first (n ∷ ns) bytes =
    looked_field (row_of rows n) (form_of n) n bytes >>= λ x. looked_fields rows (or_else first (refused_if (not x.0) n)) ns x.1

unfoldable pub looked_over : Rows → List ℕ → Result (Option ℕ) DecodeError
looked_over rows bytes = do
  front ← front_at bytes
  x ← looked_fields rows None front.1 front.2
  if length x.1 == 0 then Ok x.0 else Err Trailing
