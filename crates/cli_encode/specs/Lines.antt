-- The lines of a text: what a line says, and the bytes that say it.
use Rattle.std.specs.Prelude.{◌≡◌, ◌<◌, ◌==◌, ℕ, Bool, true, false, List, [], ◌∷◌, ◌++◌, length, map, Option, Some, codes, nat_le}
use Rattle.std.specs.Fmt.{decimal}
use Rattle.std.specs.List.{flat_map, list_all, list_any}
use Rattle.std.specs.Borrow.{Bor}
use Rattle.iso_msg.specs.declared.table.FieldForm.{FieldForm}
use Rattle.iso_msg.specs.declared.table.FieldForm.TheVariants.{Binary}
use Rattle.iso_msg.specs.Table.{form_of}
use Rattle.iso_msg.specs.Values.{is_byte}
use Rattle.iso_msg.specs.Messages.{PlainMessage, IsMti}
use Rattle.iso_codec.specs.Spelling.{hex}
use Rattle.cli_decode.specs.Decoded.{shown}
use Rattle.cli_encode.specs.declared.line.Line.{Line}
use Rattle.cli_encode.specs.declared.line.Line.TheVariants as line
use Rattle.cli_encode.specs.declared.line.Value.{Value}
use Rattle.cli_encode.specs.declared.line.Value.TheVariants as value

-- what a line says: `message W`, `header W`, `mti DDDD`, or a field's number and its value
pub data PlainLine : Type 0 where
  Heading : (word : List ℕ) → PlainLine
  Header : (digits : List ℕ) → PlainLine
  MessageType : (digits : List ℕ) → PlainLine
  Field : (number : ℕ) → (value : List ℕ) → PlainLine

abbrev pub has_byte : ℕ → List ℕ → Bool
has_byte c bytes = list_any (λ b. b == c) bytes

-- a binary value has eight bytes, and any other no line feed
abbrev pub IsOnLine : Option FieldForm → List ℕ → Type 0
IsOnLine (Some Binary) value = (length value ≡ 8) × (list_all is_byte value ≡ true)
IsOnLine form value = has_byte 10 value ≡ false

-- words and values without a line feed, a type of four digits, and numbers below 256
abbrev pub IsLine : PlainLine → Type 0
IsLine (Heading word) = has_byte 10 word ≡ false
IsLine (Header digits) = has_byte 10 digits ≡ false
IsLine (MessageType digits) = IsMti digits
IsLine (Field n value) = (n < 256) × IsOnLine (form_of n) value

-- the bytes of a line without its line feed
abbrev pub line_bytes : PlainLine → List ℕ
line_bytes (Heading word) = codes "message " ++ word
line_bytes (Header digits) = codes "header " ++ digits
line_bytes (MessageType digits) = codes "mti " ++ digits
line_bytes (Field n value) = decimal n ++ (codes " " ++ shown (form_of n) value)

abbrev pub ended_line : PlainLine → List ℕ
ended_line l = line_bytes l ++ codes "\n"

abbrev pub text_of_lines : List PlainLine → List ℕ
text_of_lines ls = flat_map ended_line ls

abbrev pub field_of : ℕ × List ℕ → PlainLine
field_of f = Field f.0 f.1

-- the line of a header; one without bytes has none
abbrev pub header_lines : List ℕ → List PlainLine
header_lines [] = []
header_lines (byte ∷ more) = Header (flat_map hex (byte ∷ more)) ∷ []

-- the lines of a message with its header, which has this number
abbrev pub lines_of_message : ℕ → List ℕ → PlainMessage → List PlainLine
lines_of_message n header m = Heading (decimal n) ∷ (header_lines header ++ MessageType m.mti ∷ map field_of m.fields)

-- what a line that was read says, without where it lies in memory

abbrev pub value_of : Value → List ℕ
value_of (value.Text text) = text.now
value_of (value.Octets octets) = octets

abbrev pub plain_line : Line → PlainLine
plain_line (line.Heading word) = Heading word.now
plain_line (line.Header digits) = Header digits.now
plain_line (line.MessageType mti) = MessageType mti
plain_line (line.Field n v) = Field n (value_of v)

-- the line that bytes are, or that they are not a line
abbrev pub Says : List ℕ → Line → Type 0
Says bytes l = (line_bytes (plain_line l) ≡ bytes) × IsLine (plain_line l)

abbrev pub SaysNothing : List ℕ → Type 0
SaysNothing bytes = (l : PlainLine) → IsLine l → line_bytes l ≡ bytes → ⊥

-- the same of a field's line
abbrev pub SaysNoField : List ℕ → Type 0
SaysNoField bytes = (n : ℕ) (value : List ℕ) → IsLine (Field n value) → line_bytes (Field n value) ≡ bytes → ⊥

-- the same of a field's value
abbrev pub IsValueOf : Option FieldForm → List ℕ → Value → Type 0
IsValueOf form text v = (shown form (value_of v) ≡ text) × IsOnLine form (value_of v)

abbrev pub IsNoValueOf : Option FieldForm → List ℕ → Type 0
IsNoValueOf form text = (value : List ℕ) → IsOnLine form value → shown form value ≡ text → ⊥

-- a digit in lower case
abbrev pub has_lower : List ℕ → Bool
has_lower text = list_any (λ b. nat_le 97 b) text

-- the text is the digits of these eight bytes, in upper case
abbrev pub AreOctetsOf : List ℕ → List ℕ → Type 0
AreOctetsOf text octets = (flat_map hex octets ≡ text) × IsOnLine (Some Binary) octets

-- what comes before the first of these bytes, and what follows it
abbrev pub IsCut : ℕ → List ℕ → Bor (List ℕ) × Bor (List ℕ) → Type 0
IsCut mark bytes p = (p.0.now ++ mark ∷ p.1.now ≡ bytes) × (has_byte mark p.0.now ≡ false)

-- what follows these bytes at the front
abbrev pub IsAfter : List ℕ → List ℕ → Bor (List ℕ) → Type 0
IsAfter front bytes rest = front ++ rest.now ≡ bytes

-- these bytes do not stand at the front
abbrev pub IsNotBefore : List ℕ → List ℕ → Type 0
IsNotBefore front bytes = (rest : List ℕ) → front ++ rest ≡ bytes → ⊥

-- the number, below 256, whose decimal digits a word is
abbrev pub IsNumberOf : List ℕ → ℕ → Type 0
IsNumberOf word n = (decimal n ≡ word) × (n < 256)

-- the word is not the digits of such a number
abbrev pub IsNoNumber : List ℕ → Type 0
IsNoNumber word = (n : ℕ) → n < 256 → decimal n ≡ word → ⊥

-- the type that these digits are, or that they are none
abbrev pub IsTypeOf : List ℕ → List ℕ → Type 0
IsTypeOf digits mti = (mti ≡ digits) × IsMti mti

abbrev pub IsNoType : List ℕ → Type 0
IsNoType digits = IsMti digits → ⊥
