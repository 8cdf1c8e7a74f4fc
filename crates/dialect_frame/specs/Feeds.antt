-- What a framer answers.
use Rattle.std.specs.Prelude.{◌≡◌, ◌<◌, ◌≤◌, ◌+◌, ℕ, Bool, true, false, List, [], ◌++◌, length, take, drop, Option, Some, None, Result, Ok, Err}
use Rattle.std.specs.Global.{Vec}
use Rattle.dialect_toml.specs.declared.frame.Frame.{Frame}
use Rattle.dialect_toml.specs.declared.words.FrameLength.{FrameLength}
use Rattle.dialect_frame.specs.declared.error.StreamError.{StreamError}
use Rattle.dialect_frame.specs.declared.error.StreamError.TheVariants.{BadLength, OutOfMemory}
use Rattle.dialect_frame.specs.declared.lead.Lead.{Lead}
use Rattle.dialect_frame.specs.declared.lead.Lead.TheVariants as lead
use Rattle.dialect_frame.specs.declared.lead.Spelled.{Spelled}
use Rattle.dialect_frame.specs.declared.lead.Spelled.TheVariants as spelled
use Rattle.sw_frame.specs.Feeds.{messages}
use Rattle.sw_frame.specs.Stream.{State}
use Rattle.dialect_frame.specs.Forms.{Framed, IsBad, IsLengthOf, IsPartial, lead_in, number_in, start, width}
use Rattle.dialect_frame.specs.Stream.{AreFramed, Framing, Stream}

-- the first bytes of others, if there are that many
abbrev pub IsFront : ℕ → List ℕ → Option (List ℕ) → Type 0
IsFront count bytes None = length bytes < count
IsFront count bytes (Some front) = (count ≤ length bytes) × (take count bytes ≡ front)

-- the number that the first bytes of others spell
abbrev pub IsSpelled : FrameLength → List ℕ → Spelled → Type 0
IsSpelled form bytes spelled.Short = length bytes < width form
IsSpelled form bytes spelled.NoNumber = (width form ≤ length bytes) × (number_in form (take (width form) bytes) ≡ None)
IsSpelled form bytes (spelled.Number n) = (width form ≤ length bytes) × (number_in form (take (width form) bytes) ≡ Some n)

-- What a length says that spells this number, where so many are counted beside those of the message, which has so many at most.
abbrev pub IsLeadFor : ℕ → ℕ → ℕ → Lead → Type 0
IsLeadFor others most number lead.Short = ⊥
IsLeadFor others most number lead.Bad = (n : ℕ) → number ≡ others + n → n ≤ most → ⊥
IsLeadFor others most number (lead.Message n) = (number ≡ others + n) × (n ≤ most)

-- what is found where a length is expected, at the front of the bytes
abbrev pub IsLead : Frame → List ℕ → Lead → Type 0
IsLead f bytes lead.Short = length bytes < width f.length
IsLead f bytes lead.Bad = IsBad f bytes
IsLead f bytes (lead.Message n) = (width f.length ≤ length bytes) × IsLengthOf f (lead_in f bytes) n

-- what follows whole frames: no length, or less than a frame
abbrev pub IsRest : Frame → Bool → List ℕ → Type 0
IsRest f true rest = IsBad f rest
IsRest f false rest = IsPartial f rest

-- what a framer holds: nothing once it has failed
abbrev pub IsHeld : Frame → Bool → List ℕ → Type 0
IsHeld f true held = held ≡ []
IsHeld f false held = IsPartial f held

-- the frame that held bytes and this many of a piece make
abbrev pub first_frame : List ℕ → List ℕ → ℕ → List ℕ
first_frame held piece missing = held ++ take missing piece

-- this many bytes of a piece make the first frame whole
abbrev pub MakesWhole : Frame → List ℕ → List ℕ → ℕ → Type 0
MakesWhole f held piece missing =
    Framed f (first_frame held piece missing) (drop (start f) (first_frame held piece missing))

-- Frames are added: whatever text the earlier ones are of, all are those of that text and the bytes after it.
abbrev pub AddsFrames : Frame → List (List ℕ) → List ℕ → List (List ℕ) → Type 0
AddsFrames f earlier taken all = (text : List ℕ) → AreFramed f text earlier → AreFramed f (text ++ taken) all

-- what a fault leaves: a framer that had failed stays as it is
abbrev pub IsFault : Frame → Bool → List ℕ → State → State → Type 0
IsFault f true bytes s t = t ≡ s
IsFault f false bytes s t = IsBad f bytes × (t ≡ record { pending = []; failed = true })

-- What a framer in the state s answers to a piece, and the state after it. `BadLength` is reported exactly where the framer had
-- failed or the bytes begin with no length; `OutOfMemory` only where `BadLength` isn't, and it changes nothing.
abbrev pub IsAnswerFor : Frame → State → List ℕ → Result (Vec (Vec ℕ)) StreamError → State → Type 0
IsAnswerFor f s piece (Ok out) t =
    (s.failed ≡ false) × Stream f (s.pending ++ piece) (messages out.items) t × (IsBad f (s.pending ++ piece) → ⊥)
IsAnswerFor f s piece (Err BadLength) t = IsFault f s.failed (s.pending ++ piece) s t
IsAnswerFor f s piece (Err OutOfMemory) t = (s.failed ≡ false) × (t ≡ s) × (IsBad f (s.pending ++ piece) → ⊥)

-- the same of a framer, whose form stays
abbrev pub IsAnswer : Framing → List ℕ → Result (Vec (Vec ℕ)) StreamError → Framing → Type 0
IsAnswer g piece r h = IsAnswerFor g.form g.has piece r h.has × (h.form ≡ g.form)

-- However the stream was cut, it goes on: after bytes that are the frames of these messages, the messages of those and a piece
-- are these and what is answered.
abbrev pub StreamGoesOn : Frame → List ℕ → List (List ℕ) → List ℕ → Result (Vec (Vec ℕ)) StreamError → State → State → Type 0
StreamGoesOn f before ms piece (Ok out) s t = Stream f (before ++ piece) (ms ++ messages out.items) t
StreamGoesOn f before ms piece (Err OutOfMemory) s t = t ≡ s
StreamGoesOn f before ms piece (Err BadLength) s t = Stream f (before ++ piece) ms t

-- the same after whatever came before
abbrev pub StreamGoesOnFrom : List ℕ → Result (Vec (Vec ℕ)) StreamError → Framing → Framing → Type 0
StreamGoesOnFrom piece r g h =
    (before : List ℕ) (ms : List (List ℕ)) → Stream g.form before ms g.has → StreamGoesOn g.form before ms piece r g.has h.has

-- pieces, joined, are the frames of these messages up to what the framer has, and of no others
abbrev pub ReadsStream : Frame → List ℕ → List (List ℕ) → Framing → Type 0
ReadsStream f bytes ms g =
    (g.form ≡ f) × Stream f bytes ms g.has
    × ((ns : List (List ℕ)) (t : State) → Stream f bytes ns t → (ns ≡ ms) × (t ≡ g.has))
