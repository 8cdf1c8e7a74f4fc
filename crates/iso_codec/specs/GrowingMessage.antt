-- Reading over a message that grows by each field, for the contracts of the reader's own steps.
use Rattle.std.specs.Prelude.{ℕ, ◌==◌, List, [], ◌∷◌, length, Option, Some, None, Result, Ok, Err, if◌then◌else◌}
use Rattle.iso_msg.specs.declared.table.FieldForm.{FieldForm}
use Rattle.iso_msg.specs.Table.{form_of}
use Rattle.iso_msg.specs.Values.{has_content}
use Rattle.iso_msg.specs.Messages.{PlainMessage, with_value}
use Rattle.iso_msg.specs.declared.error.MessageError.{MessageError}
use Rattle.iso_msg.specs.declared.error.MessageError.TheVariants as message
use Rattle.iso_codec.specs.declared.error.DecodeError.{DecodeError}
use Rattle.iso_codec.specs.declared.error.DecodeError.TheVariants.{OutOfMemory, BadMti, FieldNotInProfile, BadLength, BadContent, Trailing}
use Rattle.iso_codec.specs.Reads.{◌>>=◌, front_at, text_at}

abbrev pub with_field : PlainMessage → ℕ → List ℕ → PlainMessage
with_field m n value = record { mti = m.mti; fields = with_value n value m.fields }

abbrev pub error_of : MessageError → DecodeError
error_of message.OutOfMemory = OutOfMemory
error_of (message.FieldNotInProfile n) = FieldNotInProfile n
error_of (message.BadLength n) = BadLength n
error_of (message.BadContent n) = BadContent n
error_of message.BadMti = BadMti

-- the message with this value of a field, if it has the form's content
abbrev pub placed : FieldForm → PlainMessage → ℕ → List ℕ → Result PlainMessage DecodeError
placed form m n value = if has_content form value then Ok (with_field m n value) else Err (BadContent n)

-- the message with the field that the bytes begin with, and the bytes after it
abbrev pub grown : FieldForm → PlainMessage → ℕ → List ℕ → Result (PlainMessage × List ℕ) DecodeError
grown form m n bytes = text_at form n bytes >>= λ value. placed form m n value.0 >>= λ more. Ok (more, value.1)

abbrev pub grown_at : Option FieldForm → PlainMessage → ℕ → List ℕ → Result (PlainMessage × List ℕ) DecodeError
grown_at None m n bytes = Err (FieldNotInProfile n)
grown_at (Some form) m n bytes = grown form m n bytes

-- the message with the fields of these numbers, one after the other, and the bytes after them
unfoldable pub added : PlainMessage → List ℕ → List ℕ → Result (PlainMessage × List ℕ) DecodeError
added m [] bytes = Ok (m, bytes)
added m (n ∷ ns) bytes = grown_at (form_of n) m n bytes >>= λ x. added x.0 ns x.1

-- the message of all the bytes, read in this way
unfoldable pub read_grown : List ℕ → Result PlainMessage DecodeError
read_grown bytes = do
  front ← front_at bytes
  x ← added (record { mti = front.0; fields = [] }) front.1 front.2
  if length x.1 == 0 then Ok x.0 else Err Trailing
