-- A frame that is added.
use Rattle.std.specs.Prelude.{◌≡◌, ℕ, List, ◌++◌}
use Rattle.iso_msg.specs.Messages.{PlainMessage}
use Rattle.iso_codec.specs.Spelling.{spelling}
use Rattle.sw_frame.specs.Stream.{Framed}

-- the frame of a header and a message, in the spelling that is written, after the frames before it
abbrev pub AddsFrame : List ℕ → List ℕ → PlainMessage → List ℕ → Type 0
AddsFrame frames header m frames_now = (text : List ℕ) × (frames_now ≡ frames ++ text) × Framed text (header ++ spelling m)
