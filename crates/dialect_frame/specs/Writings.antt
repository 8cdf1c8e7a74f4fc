-- The frames that are written.
use Rattle.std.specs.Prelude.{◌≡◌, ◌<◌, ◌≤◌, ℕ, ◌+◌, List, [], ◌∷◌, ◌++◌, length, Some, Result, Ok, Err}
use Rattle.std.specs.Global.{Vec}
use Rattle.dialect_toml.specs.declared.frame.Frame.{Frame}
use Rattle.dialect_toml.specs.declared.words.FrameLength.{FrameLength}
use Rattle.dialect_toml.specs.declared.words.FrameLength.TheVariants.{Ascii4, Binary2, Binary4, Packed2}
use Rattle.dialect_frame.specs.declared.error.FrameError.{FrameError}
use Rattle.dialect_frame.specs.declared.error.FrameError.TheVariants.{OutOfMemory, OverLength, OverMost}
use Rattle.dialect_frame.specs.Forms.{IsLengthOf, beside, number_in, width}

-- the greatest number that a length spells
abbrev pub greatest : FrameLength → ℕ
greatest Ascii4 = 9999
greatest Binary2 = 65535
greatest Binary4 = 4294967295
greatest Packed2 = 9999

-- the frame of the message with the header of the form
abbrev pub WrittenAs : Frame → List ℕ → List ℕ → Type 0
WrittenAs f text message = (lead : List ℕ) × (text ≡ lead ++ (f.header ++ message)) × IsLengthOf f lead (length message)

-- the frames of messages, one after the other
abbrev pub AreWritten : Frame → List ℕ → List (List ℕ) → Type 0
AreWritten f text [] = text ≡ []
AreWritten f text (m ∷ ms) = (first rest : List ℕ) × (text ≡ first ++ rest) × WrittenAs f first m × AreWritten f rest ms

-- a message that may come, and that a length can count
abbrev pub HasFrame : Frame → ℕ → Type 0
HasFrame f n = (n ≤ f.most) × (beside f + n ≤ greatest f.length)

-- the frame of the message, or the message is too long for one
abbrev pub IsFrameOf : Frame → List ℕ → Result (Vec ℕ) FrameError → Type 0
IsFrameOf f message (Ok text) = HasFrame f (length message) × WrittenAs f text.items message
IsFrameOf f message (Err (OverMost most)) = (f.most < length message) × (most ≡ f.most)
IsFrameOf f message (Err OverLength) = (length message ≤ f.most) × (greatest f.length < beside f + length message)
IsFrameOf f message (Err OutOfMemory) = HasFrame f (length message)

-- a length that spells a number is added
abbrev pub AddsLength : FrameLength → ℕ → List ℕ → List ℕ → Type 0
AddsLength form n old new =
    (lead : List ℕ) × (new ≡ old ++ lead) × (length lead ≡ width form) × (number_in form lead ≡ Some n)
