-- How a text is read, line by line, for the contracts of the steps.
use Rattle.std.specs.Prelude.{◌≡◌, ◌≢◌, ◌⊎◌, ℕ, ◌+◌, ◌&&◌, nat_lt, Bool, true, false, List, [], ◌∷◌, ◌++◌, length, Option, Some, None, option_and_then, ◌==◌}
use Rattle.std.specs.Prelude.{if◌then◌else◌}
use Rattle.std.specs.Fmt.{decimal}
use Rattle.std.specs.List.{All, count_by}
use Rattle.std.specs.Option.{is_none}
use Rattle.std.specs.Str.{bytes_eq}
use Rattle.iso_msg.specs.Values.{refusal}
use Rattle.iso_msg.specs.Messages.{Fields, PlainMessage}
use Rattle.cli_decode.specs.Decoded.{message_text}
use Rattle.cli_decode.specs.Printing.{opening_of}
use Rattle.cli_encode.specs.declared.encoder.Encoder.{Encoder}
use Rattle.cli_encode.specs.declared.encoder.Stage.{Stage}
use Rattle.cli_encode.specs.declared.encoder.Stage.TheVariants.{Between, Headed, Open}
use Rattle.cli_encode.specs.declared.error.TextError.{TextError}
use Rattle.cli_encode.specs.Headers.{header_from}
use Rattle.cli_encode.specs.Lines.{PlainLine, Heading, Header, MessageType, Field, IsLine, line_bytes, text_of_lines}
use Rattle.cli_encode.specs.Refusals.{IsNoText, IsStuckAfter}
use Rattle.cli_encode.specs.Texts.{Sent, AreFramesOf, IsHeader, IsSent, messages_text}

-- how many bytes each header has, the messages that were read to their end, the header of the message after them, as far as it was
-- read, and what was begun of it
pub record Point : Type 0 where
  pub size : ℕ
  pub done : List Sent
  pub header : List ℕ
  pub stage : Stage

-- the number of the last field, or `low` where there is none
abbrev pub last_from : ℕ → Fields → ℕ
last_from low [] = low
last_from low (f ∷ fs) = last_from f.0 fs

-- 1 where there is none, as the numbers of fields are above it
abbrev pub last_of : Fields → ℕ
last_of fields = last_from 1 fields

-- the message with a field after its last one
abbrev pub with_last : PlainMessage → ℕ → List ℕ → PlainMessage
with_last m n value = record { mti = m.mti; fields = m.fields ++ (n, value) ∷ [] }

-- the field may come after the message's last one, and takes the value
abbrev pub follows : PlainMessage → ℕ → List ℕ → Bool
follows m n value = nat_lt (last_of m.fields) n && is_none (refusal n value)

-- a field is added after the last one where it may follow it; otherwise the message stays as it was
abbrev pub AddsField : PlainMessage → ℕ → List ℕ → PlainMessage → Bool → Type 0
AddsField m n value m' true = (follows m n value ≡ true) × (m' ≡ with_last m n value)
AddsField m n value m' false = (follows m n value ≡ false) × (m' ≡ m)

-- a message that was begun is ended
abbrev pub closed_at : ℕ → List Sent → List ℕ → Stage → Point
closed_at size done header (Open m) = record { size = size; done = done ++ (header, m) ∷ []; header = header; stage = Between }
closed_at size done header stage = record { size = size; done = done; header = header; stage = stage }

abbrev pub closed : Point → Point
closed p = closed_at p.size p.done p.header p.stage

-- a heading with the next message's number
abbrev pub headed : ℕ → List Sent → List ℕ → Option Point
headed size done word =
    if bytes_eq word (decimal (length done + 1)) then Some (record { size = size; done = done; header = []; stage = Headed }) else None

-- a header after a heading, which has none yet
abbrev pub named : ℕ → List Sent → List ℕ → Option (List ℕ) → Option Point
named size done [] (Some header) = Some (record { size = size; done = done; header = header; stage = Headed })
named size done [] None = None
named size done (byte ∷ more) found = None

-- a type after a heading and the header
abbrev pub typed : ℕ → List Sent → List ℕ → List ℕ → Option Point
typed size done header digits =
    if length header == size
    then Some (record { size = size; done = done; header = header; stage = Open (record { mti = digits; fields = [] }) })
    else None

-- what a line makes of it, if the line is allowed there
unfoldable pub step_at : ℕ → List Sent → List ℕ → Stage → PlainLine → Option Point
step_at size done header Between (Heading word) = headed size done word
step_at size done header (Open m) (Heading word) = headed size (done ++ (header, m) ∷ []) word
step_at size done header Headed (Header digits) = named size done header (header_from size digits)
step_at size done header Headed (MessageType digits) = typed size done header digits
step_at size done header (Open m) (Field n value) =
    if follows m n value then Some (record { size = size; done = done; header = header; stage = Open (with_last m n value) }) else None
step_at size done header stage l = None

abbrev pub step : Point → PlainLine → Option Point
step p l = step_at p.size p.done p.header p.stage l

-- the text of what was read
abbrev pub stage_text : ℕ → List ℕ → Stage → List ℕ
stage_text n header Between = []
stage_text n header Headed = opening_of n header
stage_text n header (Open m) = message_text n header m

abbrev pub text_of : Point → List ℕ
text_of p = messages_text 1 p.done ++ stage_text (length p.done + 1) p.header p.stage

-- a message that was begun is valid so far, and so is its header
abbrev pub IsMessageIn : ℕ → List ℕ → Stage → Type 0
IsMessageIn size header Between = Unit {0}
IsMessageIn size header Headed = (header ≡ []) ⊎ IsHeader size header
IsMessageIn size header (Open m) = IsSent size (header, m)

-- an encoder that has read so far
pub record IsAt (p : Point) (e : Encoder) : Type 0 where
  pub size : p.size ≡ e.size
  pub stage : p.stage ≡ e.stage
  pub header : p.header ≡ e.header.items
  pub count : e.count ≡ length p.done
  pub valid : All (IsSent p.size) p.done
  pub begun : IsMessageIn p.size p.header p.stage
  pub frames : AreFramesOf e.frames.items p.done

-- nothing was read
pub record IsBlank (size : ℕ) (e : Encoder) : Type 0 where
  pub sized : e.size ≡ size
  pub stage : e.stage ≡ Between
  pub header : e.header.items ≡ []
  pub count : e.count ≡ 0
  pub frames : e.frames.items ≡ []

-- the message that was begun is ended, if it has a type
abbrev pub Closes : Encoder → Encoder → Type 0
Closes e e' = (p : Point) → IsAt p e → IsAt (closed p) e'

-- A line is taken; or it is not allowed there, and what was read stays as it was, but a message may have been ended.
abbrev pub Takes : Encoder → PlainLine → Encoder → Bool → Type 0
Takes e l e' true = (p : Point) → IsAt p e → (q : Point) × (step p l ≡ Some q) × IsAt q e'
Takes e l e' false = (p : Point) → IsAt p e → (step p l ≡ None) × (q : Point) × ((q ≡ p) ⊎ (q ≡ closed p)) × IsAt q e'

-- The text ends: what was begun is ended; or a heading came last, and everything stays as it was.
abbrev pub Finishes : Encoder → Encoder → Bool → Type 0
Finishes e e' true = (p : Point) → IsAt p e → (p.stage ≢ Headed) × IsAt (closed p) e'
Finishes e e' false = (p : Point) → IsAt p e → (p.stage ≡ Headed) × IsAt p e'

-- what lines make of it, one after the other, if each is allowed there
abbrev pub run : Point → List PlainLine → Option Point
run p [] = Some p
run p (l ∷ ls) = option_and_then (λ q. run q ls) (step p l)

abbrev pub start : ℕ → Point
start size = record { size = size; done = []; header = []; stage = Between }

-- A text was read up to this rest: this many lines, each of which was allowed where it was; the encoder is where they lead.
pub record IsSoFar (size : ℕ) (text rest : List ℕ) (lines : ℕ) (e : Encoder) : Type 0 where
  pub read : List PlainLine
  pub point : Point
  pub are_lines : All IsLine read
  pub reached : run (start size) read ≡ Some point
  pub at : IsAt point e
  pub whole : text ≡ text_of_lines read ++ rest
  pub counted : lines ≡ length read

-- the whole text was read: it is that of the messages that are done
abbrev pub IsReadWhole : ℕ → List ℕ → Encoder → Type 0
IsReadWhole size text e = (p : Point) × IsAt p e × (p.size ≡ size) × (p.stage ≡ Between) × (text ≡ messages_text 1 p.done)

-- A text was read up to a line, after this many others: what comes before the line begins the text of messages that are
-- done and one that may be begun, and the text is that of no messages.
pub record IsReadUpTo (size : ℕ) (text : List ℕ) (lines : ℕ) (e : Encoder) : Type 0 where
  pub point : Point
  pub before : List ℕ
  pub rest : List ℕ
  pub at : IsAt point e
  pub sized : point.size ≡ size
  pub whole : text ≡ before ++ rest
  pub begun : before ≡ text_of point
  pub counted : lines ≡ count_by (λ b. b == 10) before
  pub refused : IsNoText size text
  pub stuck : IsStuckAfter size before rest

-- a text was read whole, or up to a line at which it is refused
abbrev pub IsReading : ℕ → List ℕ → Encoder → Option TextError → Type 0
IsReading size text e None = IsReadWhole size text e
IsReading size text e (Some error) = (lines : ℕ) × (error.line ≡ lines + 1) × IsReadUpTo size text lines e

-- a line of these bytes is taken, or no line of these bytes is allowed there
abbrev pub TakesBytes : Encoder → List ℕ → Encoder → Bool → Type 0
TakesBytes e bytes e' true = (l : PlainLine) × IsLine l × (line_bytes l ≡ bytes) × Takes e l e' true
TakesBytes e bytes e' false = (p : Point) → IsAt p e
    → ((l : PlainLine) → IsLine l → line_bytes l ≡ bytes → step p l ≡ None) × (q : Point) × ((q ≡ p) ⊎ (q ≡ closed p)) × IsAt q e'
