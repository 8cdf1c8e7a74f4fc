-- The frame of a message that is sent.
use Rattle.std.specs.Prelude.{ℕ, ◌<◌, ◌-◌, ◌==◌, ◌&&◌, Bool, false, List, length, nat_le, take, Option, Some, None}
use Rattle.std.specs.Global.{Vec}
use Rattle.sw_base.specs.Digits.{number_of}
use Rattle.sw_frame.specs.Stream.{Framed}

-- none where the message is too long for one
abbrev pub IsFrameOf : List ℕ → Option (Vec ℕ) → Type 0
IsFrameOf message (Some text) = Framed text.items message
IsFrameOf message None = 9999 < length message

-- there is a number, and it is this one
abbrev pub is_number : Option ℕ → ℕ → Bool
is_number None n = false
is_number (Some m) n = m == n

-- four digits of length, and then as many bytes
abbrev pub is_frame : List ℕ → Bool
is_frame text = nat_le 4 (length text) && is_number (number_of (take 4 text)) (length text - 4)
