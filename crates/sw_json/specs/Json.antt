-- The words of JSON: strings, and the members of an object.
use Rattle.std.specs.Prelude.{ℕ, ◌+◌, ◌/◌, ◌%◌, ◌==◌, ◌&&◌, nat_le, nat_lt, Bool, true, false, List, [], ◌∷◌, ◌++◌, codes, if◌then◌else◌}
use Rattle.std.specs.Fmt.{decimal}
use Rattle.std.specs.List.{flat_map}

-- text as bytes
abbrev pub Text : Type 0
Text = List ℕ

-- a byte of printable ASCII
abbrev pub is_printable : ℕ → Bool
is_printable b = nat_le 32 b && nat_le b 126

-- a hexadecimal digit, in upper case
abbrev pub hex_digit : ℕ → ℕ
hex_digit d = if nat_lt d 10 then 48 + d else 55 + d

-- a byte within a string: a quotation mark, a backslash, a line feed and whatever is not printable ASCII are escaped
abbrev pub escaped : ℕ → Text
escaped b =
    if b == 34 then codes "\\\"" else if b == 92 then codes "\\\\" else if b == 10 then codes "\\n"
    else if is_printable b then b ∷ [] else codes "\\u00" ++ (hex_digit (b / 16) ∷ hex_digit (b % 16) ∷ [])

unfoldable pub string : Text → Text
string text = codes "\"" ++ (flat_map escaped text ++ codes "\"")

-- strings, separated by commas
abbrev pub next_string : Text → Text
next_string text = codes "," ++ string text

unfoldable pub strings : List Text → Text
strings [] = []
strings (x ∷ xs) = string x ++ flat_map next_string xs

-- `{"WORD":N`
unfoldable pub opening : Text → ℕ → Text
opening word n = codes "{\"" ++ (word ++ (codes "\":" ++ decimal n))

-- `,"WORD":N`
unfoldable pub number : Text → ℕ → Text
number word n = codes ",\"" ++ (word ++ (codes "\":" ++ decimal n))

-- `,"WORD":"TEXT"`
unfoldable pub text : Text → Text → Text
text word value = codes ",\"" ++ (word ++ (codes "\":" ++ string value))

abbrev pub truth : Bool → Text
truth true = codes "true"
truth false = codes "false"

-- `,"WORD":true`, or `false`
unfoldable pub flag : Text → Bool → Text
flag word value = codes ",\"" ++ (word ++ (codes "\":" ++ truth value))

-- `,"WORD":["TEXT","TEXT"]`
unfoldable pub texts : Text → List Text → Text
texts word values = codes ",\"" ++ (word ++ (codes "\":[" ++ (strings values ++ codes "]")))
