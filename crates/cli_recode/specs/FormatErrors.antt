-- The response of format error that stands in the place of another response.
use Rattle.std.specs.Prelude.{◌≡◌, ◌<◌, ◌⊎◌, ℕ, List, [], ◌∷◌, ◌++◌, length, Some, Option, None, Ok, Err}
use Rattle.iso_msg.specs.Messages.{PlainMessage}
use Rattle.iso_codec.specs.declared.error.DecodeError.{DecodeError}
use Rattle.iso_codec.specs.Reads.{read}
use Rattle.iso_codec.specs.Spelling.{spelling}
use Rattle.sw_messages.specs.declared.response_code.ResponseCode.TheVariants as code
use Rattle.sw_messages.specs.Placing.{copied, with_field}
use Rattle.sw_messages.specs.Requests.{digits_of}

-- the bytes are a header of this many, and what follows it
abbrev pub IsHeaded : ℕ → List ℕ → List ℕ → List ℕ → Type 0
IsHeaded n bytes header body = (bytes ≡ header ++ body) × (length header ≡ n)

-- the fields by which who waits for a response finds its request
abbrev pub key_numbers : List ℕ
key_numbers = 7 ∷ 11 ∷ 41 ∷ []

-- the same type and key, and the code of a format error
abbrev pub format_error : PlainMessage → PlainMessage
format_error m = record {
  mti = m.mti;
  fields = with_field 39 (Some (digits_of code.FormatError)) (copied key_numbers m.fields []);
}

-- after the same header
abbrev pub IsFormatErrorText : ℕ → List ℕ → List ℕ → Type 0
IsFormatErrorText n bytes text =
    (header body : List ℕ) × (m : PlainMessage) × IsHeaded n bytes header body × (read body ≡ Ok m)
    × (text ≡ header ++ spelling (format_error m))

-- no message follows a header of this many bytes
abbrev pub HasNoMessage : ℕ → List ℕ → Type 0
HasNoMessage n bytes =
    (length bytes < n) ⊎ ((header body : List ℕ) × (e : DecodeError) × IsHeaded n bytes header body × (read body ≡ Err e))

-- the response in the place of that of the bytes, if they are a message
abbrev pub IsFormatErrorOf : ℕ → List ℕ → Option (List ℕ) → Type 0
IsFormatErrorOf n bytes (Some text) = IsFormatErrorText n bytes text
IsFormatErrorOf n bytes None = HasNoMessage n bytes
