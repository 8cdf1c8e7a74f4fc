-- Frames in a stream of bytes.
use Rattle.std.specs.Prelude.{◌≡◌, ℕ, true, false, List, [], ◌∷◌, ◌++◌, ◌⊎◌}
use Rattle.sw_frame.specs.Stream.{State, blank}
use Rattle.dialect_toml.specs.declared.frame.Frame.{Frame}
use Rattle.dialect_frame.specs.Forms.{Framed, IsBad, IsPartial}
use Rattle.dialect_frame.specs.Writings.{AreWritten}

-- frames one after the other
abbrev pub AreFramed : Frame → List ℕ → List (List ℕ) → Type 0
AreFramed f text [] = text ≡ []
AreFramed f text (m ∷ ms) = (first rest : List ℕ) × (text ≡ first ++ rest) × Framed f first m × AreFramed f rest ms

-- how the bytes after whole frames leave a framer
abbrev pub Ends : Frame → List ℕ → State → Type 0
Ends f rest s =
    (IsPartial f rest × (s ≡ record { pending = rest; failed = false }))
    ⊎ (IsBad f rest × (s ≡ record { pending = []; failed = true }))

-- The bytes begin with the frames of these messages, and no other frame follows: what follows is an unfinished frame or no length.
pub record Stream (f : Frame) (bytes : List ℕ) (ms : List (List ℕ)) (s : State) : Type 0 where
  pub text : List ℕ
  pub rest : List ℕ
  pub whole : bytes ≡ text ++ rest
  pub frames : AreFramed f text ms
  pub ends : Ends f rest s

-- a framer: the form of the frames, and what it has
pub record Framing : Type 0 where
  pub form : Frame
  pub has : State

-- a framer that was fed nothing
abbrev pub begun : Frame → Framing
begun f = record { form = f; has = blank }

-- a stream has its messages and no others
abbrev pub HasOneReading : Type 0
HasOneReading =
    (f : Frame) (bytes : List ℕ) (ms ns : List (List ℕ)) (s t : State) → Stream f bytes ms s → Stream f bytes ns t
    → (ms ≡ ns) × (s ≡ t)

-- the frames that are written of messages are read as these messages, and nothing is left
abbrev pub WrittenIsRead : Type 0
WrittenIsRead =
    (f : Frame) (text : List ℕ) (ms ns : List (List ℕ)) (s : State) → AreWritten f text ms → Stream f text ns s
    → (ns ≡ ms) × (s ≡ blank)
