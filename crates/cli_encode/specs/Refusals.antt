-- Where and why a text is refused.
use Rattle.std.specs.Prelude.{◌≡◌, ◌<◌, ◌==◌, ℕ, ◌+◌, ◌^◌, false, List, [], ◌∷◌, ◌++◌, length, Option, ◌⊎◌}
use Rattle.std.specs.List.{All, count_by}
use Rattle.cli_decode.specs.Decoded.{message_text}
use Rattle.cli_decode.specs.Printing.{opening_of}
use Rattle.cli_encode.specs.Lines.{has_byte}
use Rattle.cli_encode.specs.Texts.{Sent, AddsFramesOf, IsHeader, IsSent, messages_text}

-- the bytes are the text of no messages with headers of this many bytes
abbrev pub IsNoText : ℕ → List ℕ → Type 0
IsNoText size bytes = (xs : List Sent) → All (IsSent size) xs → bytes ≡ messages_text 1 xs → ⊥

-- No text of messages begins with these lines and the next one, whatever follows; or the next one is the last, and has
-- no line feed.
abbrev pub IsStuckAfter : ℕ → List ℕ → List ℕ → Type 0
IsStuckAfter size before rest =
    (has_byte 10 rest ≡ false)
    ⊎ ((line after : List ℕ) × (rest ≡ line ++ 10 ∷ after) × (has_byte 10 line ≡ false)
    × ((more : List ℕ) → length (before ++ (line ++ 10 ∷ more)) < 2 ^ 63 → IsNoText size (before ++ (line ++ 10 ∷ more))))

-- a heading, perhaps with its header
abbrev pub IsOpening : ℕ → ℕ → List ℕ → Type 0
IsOpening size n bytes = (header : List ℕ) × ((header ≡ []) ⊎ IsHeader size header) × (bytes ≡ opening_of n header)

-- nothing, a heading, perhaps with its header, or a valid message's text
abbrev pub IsHead : ℕ → ℕ → List ℕ → Type 0
IsHead size n bytes = (bytes ≡ []) ⊎ IsOpening size n bytes ⊎ ((x : Sent) × IsSent size x × (bytes ≡ message_text n x.0 x.1))

-- the bytes begin the text of these messages and of no more than one after them
abbrev pub IsBegunOf : ℕ → List Sent → List ℕ → Type 0
IsBegunOf size xs bytes = (begun : List ℕ) × (bytes ≡ messages_text 1 xs ++ begun) × IsHead size (length xs + 1) begun

-- A text is refused at a line of this number: it is the text of no messages, the lines before it begin such a text, but with
-- this line they do not, and the frames of the messages that are whole before it are written.
pub record IsRefusal (size : ℕ) (bytes : List ℕ) (line : ℕ) (written written_now : Option (List ℕ)) : Type 0 where
  pub messages : List Sent
  pub before : List ℕ
  pub rest : List ℕ
  pub valid : All (IsSent size) messages
  pub whole : bytes ≡ before ++ rest
  pub begun : IsBegunOf size messages before
  pub line_number : line ≡ count_by (λ b. b == 10) before + 1
  pub refused : IsNoText size bytes
  pub stuck : IsStuckAfter size before rest
  pub written_frames : AddsFramesOf messages written written_now
