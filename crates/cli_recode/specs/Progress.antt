-- How far a stream is recoded.
use Rattle.std.specs.Prelude.{◌≡◌, ◌⊎◌, ℕ, Bool, true, false, List, ◌++◌, Option}
use Rattle.std.specs.Io.KnownBytes.{Appends, Consumes, IsAtEnd, Keeps}
use Rattle.dialect_toml.specs.declared.frame.Frame.{Frame}
use Rattle.dialect_frame.specs.Stream.{Stream}
use Rattle.cli_recode.specs.declared.message.Recoding.{Recoding}
use Rattle.cli_recode.specs.declared.recoder.Recoder.{Recoder}
use Rattle.cli_recode.specs.Recodings.{AreWritten}

-- after these bytes, which begin with the frames of these messages, this much is written
pub record IsAfter (form : Frame) (job : Recoding) (bytes out : List ℕ) (ms : List (List ℕ)) (r : Recoder) : Type 0 where
  pub same : r.framer.form ≡ form
  pub stream : Stream form bytes ms r.framer.has
  pub recoded : AreWritten job ms out r.refused

-- where nothing was refused, nothing is reported
abbrev pub IsQuiet : Bool → Option (List ℕ) → Option (List ℕ) → Type 0
IsQuiet refused reported reported_now = refused ≡ false → Keeps reported reported_now

-- the same of a step after which something may be refused
abbrev pub IsQuietStep : Bool → Bool → Option (List ℕ) → Option (List ℕ) → Type 0
IsQuietStep before refused reported reported_now = refused ≡ false → (before ≡ false) × Keeps reported reported_now

-- A piece gives further messages, and what is written for them is added.
abbrev pub RecodesPiece : Recoding → Recoder → List ℕ → Recoder → List ℕ → Type 0
RecodesPiece job r piece s text =
    (form : Frame) (bytes out : List ℕ) (ms : List (List ℕ)) → IsAfter form job bytes out ms r
    → (more : List (List ℕ)) × IsAfter form job (bytes ++ piece) (out ++ text) (ms ++ more) s

-- a reader and two writers
pub record Moment : Type 0 where
  pub unread : Option (List ℕ)
  pub written : Option (List ℕ)
  pub reported : Option (List ℕ)

-- a piece is recoded, and what becomes of it is written
pub record WritesPiece (job : Recoding) (piece : List ℕ) (m : Moment) (r : Recoder) (n : Moment) (s : Recoder) : Type 0 where
  pub out : List ℕ
  pub recoded : RecodesPiece job r piece s out
  pub written : Appends m.written n.written out
  pub quiet : IsQuietStep r.refused s.refused m.reported n.reported

-- what was done since a first moment
pub record IsSoFar (form : Frame) (job : Recoding) (first now : Moment) (r : Recoder) : Type 0 where
  pub bytes : List ℕ
  pub out : List ℕ
  pub messages : List (List ℕ)
  pub consumed : Consumes first.unread now.unread bytes
  pub recoded : IsAfter form job bytes out messages r
  pub written : Appends first.written now.written out
  pub quiet : IsQuiet r.refused first.reported now.reported

-- Recoding goes on from what was recoded so far; where no more comes, the reader is at its end or the stream has failed.
abbrev pub RecodingGoesOn : Recoding → Moment → Recoder → Moment → Recoder → Bool → Type 0
RecodingGoesOn job m r n s more =
    ((form : Frame) (first : Moment) → IsSoFar form job first m r → IsSoFar form job first n s)
    × (more ≡ false → IsAtEnd n.unread ⊎ (s.framer.has.failed ≡ true))
