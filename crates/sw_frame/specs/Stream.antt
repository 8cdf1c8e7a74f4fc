-- Frames in a stream of bytes.
use Rattle.std.specs.Prelude.{◌≡◌, ◌<◌, ◌≤◌, ◌+◌, ◌⊎◌, ℕ, Bool, true, false, List, [], ◌∷◌, ◌++◌, length, take, Some, None}
use Rattle.sw_base.specs.Digits.{number_of}

-- a frame: four digits of length, and that many bytes, which are the message
abbrev pub Framed : List ℕ → List ℕ → Type 0
Framed text message =
    (digits : List ℕ) × (text ≡ digits ++ message) × (length digits ≡ 4) × (number_of digits ≡ Some (length message))

-- frames one after the other
abbrev pub AreFramed : List ℕ → List (List ℕ) → Type 0
AreFramed text [] = text ≡ []
AreFramed text (f ∷ fs) = (first rest : List ℕ) × (text ≡ first ++ rest) × Framed first f × AreFramed rest fs

-- less than a whole frame, whose length may still be right
abbrev pub IsPartial : List ℕ → Type 0
IsPartial rest =
    (length rest < 4)
    ⊎ ((n : ℕ) × (4 ≤ length rest) × (number_of (take 4 rest) ≡ Some n) × (length rest < 4 + n))

-- the four bytes of a length are not digits
abbrev pub IsBad : List ℕ → Type 0
IsBad rest = (4 ≤ length rest) × (number_of (take 4 rest) ≡ None)

-- what a framer has: the bytes of an unfinished frame, or the fault that it met
pub record State : Type 0 where
  pub pending : List ℕ
  pub failed : Bool

-- how the bytes after whole frames leave a framer
abbrev pub Ends : List ℕ → State → Type 0
Ends rest s =
    (IsPartial rest × (s ≡ record { pending = rest; failed = false }))
    ⊎ (IsBad rest × (s ≡ record { pending = []; failed = true }))

-- The bytes begin with these frames, and no other frame follows: what follows is an unfinished frame or no length.
pub record Stream (bytes : List ℕ) (fs : List (List ℕ)) (s : State) : Type 0 where
  pub text : List ℕ
  pub rest : List ℕ
  pub whole : bytes ≡ text ++ rest
  pub frames : AreFramed text fs
  pub ends : Ends rest s

-- no bytes at all
abbrev pub blank : State
blank = record { pending = []; failed = false }

-- a stream has its frames and no others
abbrev pub HasOneReading : Type 0
HasOneReading =
    (bytes : List ℕ) (fs gs : List (List ℕ)) (s t : State) → Stream bytes fs s → Stream bytes gs t
    → (fs ≡ gs) × (s ≡ t)
