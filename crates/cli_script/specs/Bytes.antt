-- Bytes in hexadecimal digits, two for each, in either case.
use Rattle.std.specs.Prelude.{ℕ, List, [], ◌∷◌, Option, Some, None, Result, Ok}
use Rattle.std.specs.Result.{result_ok}
use Rattle.hex.specs.Hex.{decode_of, decode_sized}
use Rattle.hex.specs.declared.error.FromHexError.{FromHexError}

-- the bytes of a word
abbrev pub hex_spelled : List ℕ → Option (List ℕ)
hex_spelled word = result_ok (decode_of word)

abbrev pub if_one_byte : Result (List ℕ) FromHexError → Option ℕ
if_one_byte (Ok (b ∷ [])) = Some b
if_one_byte _ = None

-- the byte of a word of just two digits
abbrev pub byte_spelled : List ℕ → Option ℕ
byte_spelled word = if_one_byte (decode_sized word 1)
