-- `encode` and `decode`, one after the other.
use Rattle.std.specs.Prelude.{◌≡◌, ◌<◌, ◌^◌, ℕ, List, length, map}
use Rattle.std.specs.List.{All}
use Rattle.sw_frame.specs.Stream.{Stream, blank}
use Rattle.cli_forms.specs.declared.masking.Masking.TheVariants.{Off}
use Rattle.cli_decode.specs.declared.style.FrameStyle.{FrameStyle}
use Rattle.cli_decode.specs.Decoded.{stream_text}
use Rattle.cli_encode.specs.Texts.{Sent, AreFramesOf, IsSent, content_of, messages_text}

-- how frames with headers of this many bytes are shown whole
abbrev pub plain : ℕ → FrameStyle
plain size = record { masking = Off; header = size }

-- The frames of valid messages are a stream of only these messages, each after its header, and its text is theirs.
abbrev pub AreDecodedBack : Type 0
AreDecodedBack =
    (size : ℕ) (xs : List Sent) (frames : List ℕ) → All (IsSent size) xs → AreFramesOf frames xs
    → Stream frames (map content_of xs) blank × (stream_text (plain size) (map content_of xs) blank ≡ messages_text 1 xs)

-- two lists of messages with one text are one list
abbrev pub AreOne : Type 0
AreOne =
    (size : ℕ) (xs ys : List Sent) → All (IsSent size) xs → All (IsSent size) ys → length (messages_text 1 xs) < 2 ^ 63
    → messages_text 1 xs ≡ messages_text 1 ys → xs ≡ ys

-- each is a header and a message in the spelling that is written
abbrev pub AreSpelled : ℕ → List (List ℕ) → Type 0
AreSpelled size fs = (xs : List Sent) × All (IsSent size) xs × (fs ≡ map content_of xs)

-- What `decode` prints for frames that each have the spelling that is written is the text of messages, and they are
-- the frames of these.
abbrev pub AreEncodedBack : Type 0
AreEncodedBack =
    (size : ℕ) (frames : List ℕ) (fs : List (List ℕ)) → Stream frames fs blank → AreSpelled size fs
    → (xs : List Sent) × All (IsSent size) xs × (stream_text (plain size) fs blank ≡ messages_text 1 xs) × AreFramesOf frames xs
