-- How far a stream was recoded and handed on.
use Rattle.std.specs.Prelude.{◌≡◌, ◌⊎◌, ℕ, Bool, true, false, List, [], ◌∷◌, ◌++◌, Option, Some, None}
use Rattle.std.specs.Io.KnownBytes.{IsAtEnd}
use Rattle.sw_frame.specs.Stream.{State}
use Rattle.dialect_toml.specs.declared.frame.Frame.{Frame}
use Rattle.cli_recode.specs.declared.message.Recoding.{Recoding}
use Rattle.cli_recode.specs.Progress.{IsAfter}
use Rattle.run_recode.specs.declared.flow.Flow.{Flow}

-- The bytes are frames of these messages and an unfinished one. What is written for the messages, and then a tail, is what was
-- handed on and what still waits.
pub record IsHandedOn (form : Frame) (job : Recoding) (bytes out tail : List ℕ) (f : Flow) : Type 0 where
  pub messages : List (List ℕ)
  pub text : List ℕ
  pub recoded : IsAfter form job bytes text messages f.recoder
  pub whole : out ++ f.queue ≡ text ++ tail

-- after a piece more, however much came before
abbrev pub FeedsOn : Recoding → Flow → List ℕ → Flow → Type 0
FeedsOn job f piece g =
    (form : Frame) (bytes out : List ℕ) → IsHandedOn form job bytes out [] f → IsHandedOn form job (bytes ++ piece) out [] g

-- what a reader gives after the last message: bytes that are no length after those that are none, and a digit of a length where the
-- stream ends within a frame
abbrev pub tail_of : Bool → List ℕ → List ℕ
tail_of true pending = 45 ∷ 45 ∷ 45 ∷ 45 ∷ []
tail_of false [] = []
tail_of false (b ∷ pending) = 48 ∷ []

-- the same of a stream that has ended
abbrev pub tail_at : Bool → State → List ℕ
tail_at false s = []
tail_at true s = tail_of s.failed s.pending

-- the stream is over: the reader inside is at its end, or there was a bad length
abbrev pub IsOver : Option (List ℕ) → Flow → Type 0
IsOver unread f = IsAtEnd unread ⊎ (f.recoder.framer.has.failed ≡ true)

-- what is known of bytes without a profile; nothing is with one
abbrev pub known_without : {S : Type 0} → Option S → Option (List ℕ) → Option (List ℕ)
known_without None known = known
known_without (Some side) known = None
