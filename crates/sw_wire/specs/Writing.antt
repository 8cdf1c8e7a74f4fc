-- What is written to a host: the frames that are handed over, each once and in their order, and echo tests.
use Rattle.std.specs.Prelude.{◌≡◌, ◌⊎◌, ⊤, ℕ, Bool, true, false, List, [], ◌∷◌, ◌++◌, drop, map, Option, None, IfSome, IsTrue, option_to_list}
use Rattle.std.specs.List.{flat_map}
use Rattle.std.specs.Io.KnownBytes.{Appends}
use Rattle.sw_frame.specs.Stream.{AreFramed}
use Rattle.sw_wire.specs.declared.frame.Frame.{Frame}
use Rattle.sw_wire.specs.Echoes.{IsEcho}
use Rattle.sw_wire.specs.Wanted.{is_timely}

-- what is written at a time: a frame that was handed over, or the bytes of an echo test
pub data Outbound : Type 0 where
  handed : Frame → Outbound
  test : List ℕ → Outbound

abbrev pub bytes_of : Outbound → List ℕ
bytes_of (handed f) = f.bytes.items
bytes_of (test bytes) = bytes

-- an echo test is one
abbrev pub IsSound : Outbound → Type 0
IsSound (handed f) = ⊤
IsSound (test bytes) = (seconds : ℕ) × (stan : ℕ) × IsEcho seconds stan bytes

abbrev pub AreSound : List Outbound → Type 0
AreSound [] = ⊤
AreSound (o ∷ os) = IsSound o × AreSound os

abbrev pub frame_in : Outbound → List Frame
frame_in (handed f) = f ∷ []
frame_in (test bytes) = []

-- the frames among them that were handed over, in their order
abbrev pub frames_in : List Outbound → List Frame
frames_in os = flat_map frame_in os

abbrev pub text_of : List Outbound → List ℕ
text_of os = flat_map bytes_of os

-- their messages, without the four digits of length
abbrev pub messages_of : List Outbound → List (List ℕ)
messages_of os = map (λ o. drop 4 (bytes_of o)) os

-- These frames were written, each once and in their order, and echo tests between them. All are written whole but the last one, of which a
-- beginning may be all that was written; then the direction does not stay open.
pub record WritesFrames (frames : List Frame) (old new : Option (List ℕ)) (open' : Bool) : Type 0 where
  pub whole : List Outbound
  pub last : Option Outbound
  pub handed_over : frames_in whole ++ frames_in (option_to_list last) ≡ frames
  pub sound : AreSound whole × AreSound (option_to_list last)
  pub framed : AreFramed (text_of whole) (messages_of whole)
  pub first : List ℕ
  pub rest : List ℕ
  pub begun : text_of (option_to_list last) ≡ first ++ rest
  pub written : Appends old new (text_of whole ++ first)
  pub stays : open' ≡ true → last ≡ None

-- what calls gave one after the other, by what each gave
abbrev pub given : List (Option Frame) → List Frame
given calls = flat_map option_to_list calls

-- Calls that lead from one state of a source to another gave this, one after the other, each at a moment at which its frame is not late.
abbrev pub Gives : {S : Type 0} → (S → ℕ → Option Frame → S → Type 0) → S → List (Option Frame) → S → Type 0
Gives gives s [] t = t ≡ s
Gives {S} gives s (call ∷ calls) t =
    (now : ℕ) × (u : S) × gives s now call u × IfSome call (λ f. IsTrue (is_timely now f)) × Gives gives u calls t

-- What was written are the frames that a source gave in the meantime.
pub record WritesGiven {S : Type 0} (gives : S → ℕ → Option Frame → S → Type 0) (s t : S) (old new : Option (List ℕ)) (open' : Bool) : Type 0 where
  pub calls : List (Option Frame)
  pub gave : Gives gives s calls t
  pub writes : WritesFrames (given calls) old new open'

-- One opening of the direction, where that could be done, and what was written until it was closed.
abbrev pub WritesOpened : {S W : Type 0} → (S → ℕ → Option Frame → S → Type 0) → (W → Option (List ℕ)) → S → S → Type 0
WritesOpened {S} {W} gives contents s t =
    (t ≡ s) ⊎ ((opened : W) × (closed : W) × WritesGiven gives s t (contents opened) (contents closed) false)

-- The same, and then the frames that wait are dropped.
abbrev pub WritesOnce :
    {S W : Type 0} → (S → ℕ → Option Frame → S → Type 0) → (S → S → Type 0) → (W → Option (List ℕ)) → S → S → Type 0
WritesOnce {S} gives drops contents s t = (u : S) × WritesOpened gives contents s u × drops u t
