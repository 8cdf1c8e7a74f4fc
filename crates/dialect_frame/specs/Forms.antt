-- Frames: a length, a header and a message.
use Rattle.std.specs.Prelude.{◌≡◌, ◌<◌, ◌≤◌, ◌⊎◌, ℕ, ◌+◌, ◌/◌, ◌%◌, List, [], ◌∷◌, ◌++◌, length, take, Option, Some, if◌then◌else◌}
use Rattle.std.specs.List.{flat_map}
use Rattle.std.specs.Int.{w16, w32, from_be_bytes}
use Rattle.sw_base.specs.Digits.{number_of}
use Rattle.dialect_toml.specs.declared.frame.Frame.{Frame}
use Rattle.dialect_toml.specs.declared.words.FrameLength.{FrameLength}
use Rattle.dialect_toml.specs.declared.words.FrameLength.TheVariants.{Ascii4, Binary2, Binary4, Packed2}

-- how many bytes a length takes
abbrev pub width : FrameLength → ℕ
width Ascii4 = 4
width Binary2 = 2
width Binary4 = 4
width Packed2 = 2

-- the digits that are packed in a byte, as characters; a half above 9 gives a character that is no digit
abbrev pub digits_in : ℕ → List ℕ
digits_in b = (48 + b / 16) ∷ (48 + b % 16) ∷ []

-- the number that the bytes of a length spell
abbrev pub number_in : FrameLength → List ℕ → Option ℕ
number_in Ascii4 bytes = number_of bytes
number_in Binary2 bytes = Some (from_be_bytes w16 bytes)
number_in Binary4 bytes = Some (from_be_bytes w32 bytes)
number_in Packed2 bytes = number_of (flat_map digits_in bytes)

-- how many of its own bytes a length counts
abbrev pub own : Frame → ℕ
own f = if f.counts_itself then width f.length else 0

-- how many bytes are counted beside those of the message
abbrev pub beside : Frame → ℕ
beside f = own f + length f.header

-- how many bytes stand before the message
abbrev pub start : Frame → ℕ
start f = width f.length + length f.header

-- the bytes are the length of a message of this many bytes, which may come
abbrev pub IsLengthOf : Frame → List ℕ → ℕ → Type 0
IsLengthOf f bytes n = (length bytes ≡ width f.length) × (number_in f.length bytes ≡ Some (beside f + n)) × (n ≤ f.most)

-- a frame: a length, a header as long as that of the form, and the message
abbrev pub Framed : Frame → List ℕ → List ℕ → Type 0
Framed f text message =
    (lead header : List ℕ) × (text ≡ lead ++ (header ++ message)) × IsLengthOf f lead (length message)
    × (length header ≡ length f.header)

-- the bytes at the front of others where a length stands
abbrev pub lead_in : Frame → List ℕ → List ℕ
lead_in f bytes = take (width f.length) bytes

-- less than a whole frame, whose length may still be right
abbrev pub IsPartial : Frame → List ℕ → Type 0
IsPartial f rest =
    (length rest < width f.length)
    ⊎ ((n : ℕ) × IsLengthOf f (lead_in f rest) n × (length rest < start f + n))

-- the bytes where a length stands are the length of no message that may come
abbrev pub IsBad : Frame → List ℕ → Type 0
IsBad f rest = (width f.length ≤ length rest) × ((n : ℕ) → IsLengthOf f (lead_in f rest) n → ⊥)
