-- The number that a word spells. A word is a list of bytes.
use Rattle.std.specs.Prelude.{◌^◌, ◌&&◌, ℕ, Bool, List, length, nat_lt, Option, Some, None, if◌then◌else◌}
use Rattle.std.specs.Char.{is_ascii_digit}
use Rattle.std.specs.List.{list_all}
use Rattle.std.specs.Str.Parse.{digits_value}

-- decimal digits only, of a number below 2^64
abbrev pub is_number : List ℕ → Bool
is_number word = list_all is_ascii_digit word && nat_lt 0 (length word) && nat_lt (digits_value 10 word) (2 ^ 64)

abbrev pub number_spelled : List ℕ → Option ℕ
number_spelled word = if is_number word then Some (digits_value 10 word) else None
