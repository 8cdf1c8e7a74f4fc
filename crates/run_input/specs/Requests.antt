-- The requests that a run reads.
--
-- - *Message in* (`Requests.antt`): what a frame has after its header, of a given number of bytes.
--   *Reading*: what is read of a frame: a request in its context, or that its message cannot be read.
--   *Reads*: the bytes taken from an input, whose frames these are, and what
--   a framer keeps. *Ends as*: how a stream ended, by its framer and what is left of the input.
use Rattle.std.specs.Prelude.{◌≡◌, ◌<◌, ℕ, ⊤, Bool, true, false, nat_le, List, [], ◌∷◌, ◌++◌, length, map, take, drop, Option, Result, Ok, Err, codes}
use Rattle.std.specs.Io.KnownBytes.{Consumes, IsAtEnd}
use Rattle.sw_context.specs.Pairs.{Pairs}
use Rattle.sw_frame.specs.Stream.{State, Stream}
use Rattle.iso_msg.specs.Messages.{PlainMessage}
use Rattle.iso_codec.specs.declared.error.DecodeError.{DecodeError}
use Rattle.iso_codec.specs.Reads.{read}
use Rattle.run_input.specs.declared.frames.StreamEnd.{StreamEnd}
use Rattle.run_input.specs.declared.frames.StreamEnd.TheVariants.{Whole, BadLength, Truncated, Unread}

-- the message of a frame comes after its header, of so many bytes; a frame that is shorter has none of it
abbrev pub message_in : ℕ → List ℕ → List ℕ
message_in n frame = drop n frame

-- the entry of a header in a context; a header without bytes has none
abbrev pub header_entry : List ℕ → Pairs
header_entry [] = []
header_entry (byte ∷ more) = (codes "header", byte ∷ more) ∷ []

-- the context that a request is offered in
abbrev pub request_of : ℕ → List ℕ → Pairs
request_of n frame = header_entry (take n frame) ++ (codes "request", message_in n frame) ∷ []

-- bytes, if there are so many
abbrev pub if_whole : Bool → List ℕ → List ℕ
if_whole true bytes = bytes
if_whole false bytes = []

-- the header of a frame; one that is shorter has none
abbrev pub header_of : ℕ → List ℕ → List ℕ
header_of n frame = if_whole (nat_le n (length frame)) (take n frame)

-- what is read of a frame: a request, in the context that it is offered in; or, if its message cannot be read, its header
pub data Reading : Type 0 where
  Readable : (request : Pairs) → Reading
  Unreadable : (header : List ℕ) → Reading

abbrev pub reading_by : ℕ → Result PlainMessage DecodeError → List ℕ → Reading
reading_by n (Ok m) frame = Readable (request_of n frame)
reading_by n (Err e) frame = Unreadable (header_of n frame)

abbrev pub reading_of : ℕ → List ℕ → Reading
reading_of n frame = reading_by n (read (message_in n frame)) frame

abbrev pub readings : ℕ → List (List ℕ) → List Reading
readings n frames = map (reading_of n) frames

-- the requests among them
abbrev pub requests_in : List Reading → List Pairs
requests_in [] = []
requests_in (Readable x ∷ rs) = x ∷ requests_in rs
requests_in (Unreadable h ∷ rs) = requests_in rs

-- the headers of messages that are passed over
abbrev pub headers_in : List Reading → List (List ℕ)
headers_in [] = []
headers_in (Readable x ∷ rs) = headers_in rs
headers_in (Unreadable h ∷ rs) = h ∷ headers_in rs

-- how the stream ended: whole frames were read to the end of the input; or a length is not four digits; or the input ends within a frame
abbrev pub EndsAs : StreamEnd → State → Option (List ℕ) → Type 0
EndsAs Whole s left = (s.failed ≡ false) × (s.pending ≡ []) × IsAtEnd left
EndsAs (BadLength n) s left = s.failed ≡ true
EndsAs (Truncated n) s left = (s.failed ≡ false) × (length s.pending ≡ n) × (0 < n) × IsAtEnd left
EndsAs (Unread e) s left = ⊤

-- what was read of an input: bytes with these frames, which are then left out of what it still has
pub record Reads (before left : Option (List ℕ)) (frames : List (List ℕ)) (s : State) : Type 0 where
  pub taken : List ℕ
  pub consumes : Consumes before left taken
  pub stream : Stream taken frames s

-- a piece has these further frames, whatever came before it
abbrev pub FramesIn : List ℕ → List (List ℕ) → State → State → Type 0
FramesIn piece more s t =
    (before : List ℕ) (frames : List (List ℕ)) → Stream before frames s → Stream (before ++ piece) (frames ++ more) t

-- these further frames were read
abbrev pub ReadsOn : Option (List ℕ) → State → List (List ℕ) → Option (List ℕ) → State → Type 0
ReadsOn left s more then t =
    (before : Option (List ℕ)) (frames : List (List ℕ)) → Reads before left frames s → Reads before then (frames ++ more) t

-- what a run has read at its end
pub record ReadTo (end : StreamEnd) (before : Option (List ℕ)) (frames : List (List ℕ)) : Type 0 where
  pub left : Option (List ℕ)
  pub state : State
  pub reads : Reads before left frames state
  pub ends : EndsAs end state left

-- an input begins with these frames
pub record BeginsWith (input : Option (List ℕ)) (frames : List (List ℕ)) : Type 0 where
  pub left : Option (List ℕ)
  pub state : State
  pub reads : Reads input left frames state

-- how many of these frames are passed over, since their messages cannot be read
abbrev pub passed_over : ℕ → List (List ℕ) → ℕ
passed_over n frames = length (headers_in (readings n frames))
