-- Headers on the lines of a text.
use Rattle.std.specs.Prelude.{◌==◌, ℕ, ◌&&◌, nat_le, nat_lt, Bool, List, length, Option, Some, None, Result, Ok, Err, if◌then◌else◌}
use Rattle.std.specs.List.{flat_map}
use Rattle.std.specs.Str.{bytes_eq}
use Rattle.hex.specs.Hex.{decode_of}
use Rattle.hex.specs.declared.error.FromHexError.{FromHexError}
use Rattle.iso_codec.specs.Spelling.{hex}

-- a header of this many bytes, at least 1 and at most 64, may stand on a line
abbrev pub has_size : ℕ → List ℕ → Bool
has_size size header = length header == size && nat_lt 0 size && nat_le size 64

-- the header's digits, in upper case, are these
abbrev pub is_spelled : List ℕ → List ℕ → Bool
is_spelled header digits = bytes_eq (flat_map hex header) digits

abbrev pub header_by : ℕ → List ℕ → Result (List ℕ) FromHexError → Option (List ℕ)
header_by size digits (Ok header) = if has_size size header && is_spelled header digits then Some header else None
header_by size digits (Err e) = None

-- the header of this many bytes whose upper case hexadecimal digits these are
unfoldable pub header_from : ℕ → List ℕ → Option (List ℕ)
header_from size digits = header_by size digits (decode_of digits)
