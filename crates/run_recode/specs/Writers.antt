-- What a writer that recodes has written.
use Rattle.std.specs.Prelude.{◌≡◌, ◌⊎◌, ℕ, true, List, [], ◌++◌, length, Option, Result, IfOk, OnErr, OnOk}
use Rattle.std.specs.Arc.{arc_value}
use Rattle.std.specs.Io.KnownBytes.{Appends}
use Rattle.dialect_toml.specs.declared.frame.Frame.{Frame}
use Rattle.cli_recode.specs.declared.message.Recoding.{Recoding}
use Rattle.run_recode.specs.Flows.{IsHandedOn}
use Rattle.run_recode.specs.declared.writer.WriteSide.{WriteSide}

-- These bytes were taken, and those written inside, with what still waits, are what is written for their messages.
pub record IsWrittenSo {E : Type 0} (form : Frame) (job : Recoding) (bytes out : List ℕ) (s : WriteSide E) : Type 0 where
  pub same : arc_value s.recoding ≡ job
  pub handed : IsHandedOn form job bytes out [] s.flow

-- these bytes are taken, and what waited is written inside
abbrev pub Takes : {E : Type 0} → Option (List ℕ) → WriteSide E → Option (List ℕ) → WriteSide E → List ℕ → Type 0
Takes written s now t buf =
    (form : Frame) (job : Recoding) (bytes out : List ℕ) → IsWrittenSo form job bytes out s
    → (sent : List ℕ) × Appends written now sent × IsWrittenSo form job (bytes ++ buf) (out ++ sent) t

-- the first of what waits is written inside
abbrev pub Sends : {E : Type 0} → Option (List ℕ) → WriteSide E → Option (List ℕ) → WriteSide E → Type 0
Sends written s now t =
    (form : Frame) (job : Recoding) (bytes out : List ℕ) → IsWrittenSo form job bytes out s
    → (sent : List ℕ) × Appends written now sent × IsWrittenSo form job bytes (out ++ sent) t

-- the same, unless memory runs out
abbrev pub SendsOrBreaks : {E : Type 0} → Option (List ℕ) → WriteSide E → Option (List ℕ) → WriteSide E → Type 0
SendsOrBreaks written s now t =
    (form : Frame) (job : Recoding) (bytes out : List ℕ) → IsWrittenSo form job bytes out s
    → (sent : List ℕ) × Appends written now sent × (IsWrittenSo form job bytes (out ++ sent) t ⊎ (t.flow.broken ≡ true))

-- a write takes all of a buffer, or nothing after an error
abbrev pub WritesOn : {E F : Type 0} → Option (List ℕ) → WriteSide E → Option (List ℕ) → WriteSide E → Result ℕ F → List ℕ → Type 0
WritesOn written s now t result buf =
    IfOk result (λ n. (n ≡ length buf) × Takes written s now t buf) × OnErr result (SendsOrBreaks written s now t)

-- a flush writes what waits, and all of it if it succeeds
abbrev pub FlushesOn : {E X F : Type 0} → Option (List ℕ) → WriteSide E → Option (List ℕ) → WriteSide E → Result X F → Type 0
FlushesOn written s now t result = Sends written s now t × OnOk result (t.flow.queue ≡ [])
