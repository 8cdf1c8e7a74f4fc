-- What `encode` reads and what it writes.
use Rattle.std.specs.Prelude.{◌≡◌, ◌≤◌, ℕ, ◌+◌, true, List, [], ◌∷◌, ◌++◌, length, map, Option}
use Rattle.std.specs.List.{All, list_all}
use Rattle.std.specs.Io.KnownBytes.{Appends}
use Rattle.iso_msg.specs.Messages.{PlainMessage, IsMessage}
use Rattle.iso_msg.specs.Values.{is_byte}
use Rattle.iso_codec.specs.Spelling.{spelling}
use Rattle.sw_frame.specs.Stream.{AreFramed}
use Rattle.cli_decode.specs.Decoded.{message_text}

-- a message after its header
abbrev pub Sent : Type 0
Sent = List ℕ × PlainMessage

-- a header of this many bytes, which are at most 64
abbrev pub IsHeader : ℕ → List ℕ → Type 0
IsHeader size header = (length header ≡ size) × (size ≤ 64) × (list_all is_byte header ≡ true)

-- a valid message after a header of this many bytes
abbrev pub IsSent : ℕ → Sent → Type 0
IsSent size x = IsHeader size x.0 × IsMessage x.1

-- the texts of messages, as `decode` prints them with their headers, the first with this number
abbrev pub messages_text : ℕ → List Sent → List ℕ
messages_text n [] = []
messages_text n (x ∷ xs) = message_text n x.0 x.1 ++ messages_text (n + 1) xs

-- what a frame has: the header, and the message in the spelling that is written
abbrev pub content_of : Sent → List ℕ
content_of x = x.0 ++ spelling x.1

-- the bytes are the frames of these messages, each after its own header
abbrev pub AreFramesOf : List ℕ → List Sent → Type 0
AreFramesOf bytes xs = AreFramed bytes (map content_of xs)

-- frames of these messages are added to what a writer has
abbrev pub AddsFramesOf : List Sent → Option (List ℕ) → Option (List ℕ) → Type 0
AddsFramesOf xs written written_now = (frames : List ℕ) × AreFramesOf frames xs × Appends written written_now frames

-- the bytes are the text of valid messages with headers of this many bytes, and their frames are added to what a writer has
abbrev pub IsEncoded : ℕ → List ℕ → Option (List ℕ) → Option (List ℕ) → Type 0
IsEncoded size bytes written written_now =
    (xs : List Sent) × All (IsSent size) xs × (bytes ≡ messages_text 1 xs) × AddsFramesOf xs written written_now
