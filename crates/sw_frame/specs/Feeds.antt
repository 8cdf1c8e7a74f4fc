-- What `frame` and a framer answer.
use Rattle.std.specs.Prelude.{◌≡◌, ◌<◌, ◌≤◌, ℕ, Bool, true, false, List, [], ◌++◌, length, map, take, drop, Option, Some, None, Result, Ok, Err}
use Rattle.std.specs.List.{flat_map}
use Rattle.std.specs.Global.{Vec}
use Rattle.sw_frame.specs.declared.error.FrameError.{FrameError}
use Rattle.sw_frame.specs.declared.error.FrameError.TheVariants.{OutOfMemory, TooLong, BadLength}
use Rattle.sw_frame.specs.declared.digits.LengthHeader.{LengthHeader}
use Rattle.sw_frame.specs.declared.digits.LengthHeader.TheVariants.{Short, Bad, Length}
use Rattle.sw_frame.specs.Stream.{AreFramed, Framed, IsPartial, IsBad, State, Stream}
use Rattle.sw_base.specs.Digits.{number_of}

-- the messages, without where they lie in memory
abbrev pub messages : List (Vec ℕ) → List (List ℕ)
messages vs = map (λ v. v.items) vs

-- the pieces of a stream, joined
abbrev pub joined : List (Vec ℕ) → List ℕ
joined pieces = flat_map (λ v. v.items) pieces

-- a frame of the message, or the message is too long for one
abbrev pub IsFrame : List ℕ → Result (Vec ℕ) FrameError → Type 0
IsFrame message (Ok text) = (length message ≤ 9999) × Framed text.items message
IsFrame message (Err TooLong) = 9999 < length message
IsFrame message (Err OutOfMemory) = length message ≤ 9999
IsFrame message (Err BadLength) = ⊥

-- what is found where a length is expected, at the front of the bytes
abbrev pub IsLengthHeader : List ℕ → LengthHeader → Type 0
IsLengthHeader bytes Short = length bytes < 4
IsLengthHeader bytes Bad = IsBad bytes
IsLengthHeader bytes (Length n) = (4 ≤ length bytes) × (number_of (take 4 bytes) ≡ Some n)

-- what follows whole frames: no length, or less than a frame
abbrev pub IsRest : Bool → List ℕ → Type 0
IsRest true rest = IsBad rest
IsRest false rest = IsPartial rest

-- what a framer holds: nothing once it has failed
abbrev pub IsHeld : Bool → List ℕ → Type 0
IsHeld true held = held ≡ []
IsHeld false held = IsPartial held

-- the frame that held bytes and this many of a piece make
abbrev pub first_frame : List ℕ → List ℕ → ℕ → List ℕ
first_frame held piece missing = held ++ take missing piece

-- this many bytes of a piece make the first frame whole
abbrev pub MakesWhole : List ℕ → List ℕ → ℕ → Type 0
MakesWhole held piece missing = Framed (first_frame held piece missing) (drop 4 (first_frame held piece missing))

-- Frames are added: whatever text the earlier ones are of, all are those of that text and the bytes after it.
abbrev pub AddsFrames : List (List ℕ) → List ℕ → List (List ℕ) → Type 0
AddsFrames earlier taken all = (text : List ℕ) → AreFramed text earlier → AreFramed (text ++ taken) all

-- the four bytes at the front, if there are that many
abbrev pub IsFront : List ℕ → Option (List ℕ) → Type 0
IsFront bytes None = length bytes < 4
IsFront bytes (Some digits) = (4 ≤ length bytes) × (take 4 bytes ≡ digits)

-- what a fault leaves: a framer that had failed stays as it is
abbrev pub IsFault : Bool → List ℕ → State → State → Type 0
IsFault true bytes s t = t ≡ s
IsFault false bytes s t = IsBad bytes × (t ≡ record { pending = []; failed = true })

-- What a framer in the state s answers to a piece, and the state after it. `BadLength` is reported exactly where the
-- framer had failed or the bytes begin with no length; `OutOfMemory` only where `BadLength` isn't, and it changes
-- nothing.
abbrev pub IsAnswer : State → List ℕ → Result (Vec (Vec ℕ)) FrameError → State → Type 0
IsAnswer s piece (Ok out) t =
    (s.failed ≡ false) × Stream (s.pending ++ piece) (messages out.items) t × (IsBad (s.pending ++ piece) → ⊥)
IsAnswer s piece (Err BadLength) t = IsFault s.failed (s.pending ++ piece) s t
IsAnswer s piece (Err OutOfMemory) t = (s.failed ≡ false) × (t ≡ s) × (IsBad (s.pending ++ piece) → ⊥)
IsAnswer s piece (Err TooLong) t = ⊥

-- However the stream was cut, it goes on: after bytes that are these frames, the frames of those and a piece are
-- these and what is answered.
abbrev pub StreamGoesOn : List ℕ → List (List ℕ) → List ℕ → Result (Vec (Vec ℕ)) FrameError → State → State → Type 0
StreamGoesOn before fs piece (Ok out) s t = Stream (before ++ piece) (fs ++ messages out.items) t
StreamGoesOn before fs piece (Err OutOfMemory) s t = t ≡ s
StreamGoesOn before fs piece (Err e) s t = Stream (before ++ piece) fs t

-- the same after whatever came before
abbrev pub StreamGoesOnFrom : List ℕ → Result (Vec (Vec ℕ)) FrameError → State → State → Type 0
StreamGoesOnFrom piece r s t =
    (before : List ℕ) (fs : List (List ℕ)) → Stream before fs s → StreamGoesOn before fs piece r s t

-- pieces, joined, are the frames of these messages up to what the framer has, and of no others
abbrev pub ReadsStream : List ℕ → List (List ℕ) → State → Type 0
ReadsStream bytes fs s =
    Stream bytes fs s × ((gs : List (List ℕ)) (t : State) → Stream bytes gs t → (gs ≡ fs) × (t ≡ s))
