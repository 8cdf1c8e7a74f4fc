-- Which bytes stand for which text.
use Rattle.std.specs.Prelude.{◌≡◌, ℕ, ◌+◌, ◌-◌, ◌*◌, ◌/◌, ◌%◌, ◌==◌, nat_lt, nat_le, Bool, true, ◌&&◌, ◌||◌, List, [], ◌∷◌, ◌++◌, length, map, take, drop}
use Rattle.std.specs.Prelude.{Option, Some, None, option_and_then, get_or, if◌then◌else◌}
use Rattle.std.specs.List.{flat_map, list_all}
use Rattle.iso_msg.specs.Values.{is_text}
use Rattle.sw_base.specs.Digits.{is_digit}
use Rattle.iso_codec.specs.Digits.{both}
use Rattle.iso_codec.specs.Spelling.{hex}
use Rattle.iso_dialect.specs.declared.coding.Coding.{Coding}
use Rattle.iso_dialect.specs.declared.coding.Coding.TheVariants.{Ascii, Ebcdic, Packed, Octets}
use Rattle.iso_dialect.specs.Pages.{char_in, code_in}

-- what each of these stands for, if each stands for something
abbrev pub each : (ℕ → Option ℕ) → List ℕ → Option (List ℕ)
each f [] = Some []
each f (x ∷ xs) = both (λ c cs. c ∷ cs) (f x) (each f xs)

-- the halves of a byte
abbrev pub halves : ℕ → List ℕ
halves b = b / 16 ∷ b % 16 ∷ []

-- the character of a half
abbrev pub char_of : ℕ → Option ℕ
char_of d = if nat_lt d 10 then Some (48 + d) else (if d == 13 then Some 61 else None)

-- the half of a character
abbrev pub half_of : ℕ → ℕ
half_of c = if c == 61 then 13 else c - 48

-- the halves without the pad that an odd number of digits has
abbrev pub unpadded : Bool → ℕ → ℕ → List ℕ → Option (List ℕ)
unpadded on_right pad count ds =
    if count % 2 == 0 then Some ds
    else (if on_right then (if get_or ds count 0 == pad then Some (take count ds) else None)
    else (if get_or ds 0 0 == pad then Some (drop 1 ds) else None))

-- the halves with the pad
abbrev pub padded : Bool → ℕ → List ℕ → List ℕ
padded on_right pad ds =
    if length ds % 2 == 0 then ds else (if on_right then ds ++ pad ∷ [] else pad ∷ ds)

-- two halves a byte
abbrev pub packed : List ℕ → List ℕ
packed [] = []
packed (d ∷ []) = (16 * d) ∷ []
packed (d ∷ e ∷ ds) = (16 * d + e) ∷ packed ds

abbrev pub is_half : ℕ → Bool
is_half d = nat_lt d 16

-- how many bytes a text of this length takes
abbrev pub byte_count : Coding → ℕ → ℕ
byte_count Ascii count = count
byte_count (Ebcdic page) count = count
byte_count (Packed on_right pad) count = (count + 1) / 2
byte_count Octets count = (count + 1) / 2

-- the text of this length that the bytes stand for
abbrev pub text_of : Coding → ℕ → List ℕ → Option (List ℕ)
text_of Ascii count bytes = Some bytes
text_of (Ebcdic page) count bytes = each (char_in page) bytes
text_of (Packed on_right pad) count bytes = option_and_then (each char_of) (unpadded on_right pad count (flat_map halves bytes))
text_of Octets count bytes = Some (flat_map hex bytes)

-- Bytes and the text that they stand for. A text has one spelling in each coding, and bytes stand for one text of a length.
abbrev pub IsCoded : Coding → List ℕ → List ℕ → Type 0
IsCoded coding bytes text = (length bytes ≡ byte_count coding (length text)) × (text_of coding (length text) bytes ≡ Some text)

-- the value of an upper case hexadecimal digit
abbrev pub hex_half : ℕ → ℕ
hex_half c = if nat_lt c 58 then c - 48 else c - 55

-- the bytes that a text is written as
abbrev pub coded : Coding → List ℕ → List ℕ
coded Ascii text = text
coded (Ebcdic page) text = map (code_in page) text
coded (Packed on_right pad) text = packed (padded on_right pad (map half_of text))
coded Octets text = packed (map hex_half text)

abbrev pub is_packed : ℕ → Bool
is_packed c = is_digit c || c == 61

abbrev pub is_upper_hex : ℕ → Bool
is_upper_hex c = is_digit c || (nat_le 65 c && nat_le c 70)

-- a coding has bytes for this text
abbrev pub is_writable : Coding → List ℕ → Bool
is_writable Ascii text = true
is_writable (Ebcdic page) text = list_all is_text text
is_writable (Packed on_right pad) text = nat_lt pad 16 && list_all is_packed text
is_writable Octets text = length text % 2 == 0 && list_all is_upper_hex text

-- What is written is read again.
abbrev pub ReadsBack : Type 0
ReadsBack = (coding : Coding) (text : List ℕ) → is_writable coding text ≡ true → IsCoded coding (coded coding text) text

-- Bytes stand for one text of a length.
abbrev pub HasOneText : Type 0
HasOneText = (coding : Coding) (bytes one other : List ℕ) → length one ≡ length other
    → IsCoded coding bytes one → IsCoded coding bytes other → one ≡ other
