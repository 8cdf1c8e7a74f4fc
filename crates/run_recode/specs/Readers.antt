-- What a reader that recodes has given.
use Rattle.std.specs.Prelude.{◌≡◌, ◌⊎◌, ⊤, ℕ, true, List, [], ◌++◌, take, Option, Some, None, Result, IfOk, OnErr}
use Rattle.std.specs.Arc.{arc_value}
use Rattle.std.specs.Io.KnownBytes.{Consumes}
use Rattle.dialect_toml.specs.declared.frame.Frame.{Frame}
use Rattle.cli_recode.specs.declared.message.Recoding.{Recoding}
use Rattle.run_recode.specs.Flows.{IsHandedOn, IsOver, tail_at}
use Rattle.run_recode.specs.declared.reader.ReadSide.{ReadSide}

-- These bytes were taken from the reader inside, and those given, with what still waits, are what is written for their messages.
pub record IsReadSo {E : Type 0} (form : Frame) (job : Recoding) (unread : Option (List ℕ)) (bytes out : List ℕ) (s : ReadSide E) : Type 0 where
  pub same : arc_value s.recoding ≡ job
  pub handed : IsHandedOn form job bytes out (tail_at s.ended s.flow.recoder.framer.has) s.flow
  pub over : s.ended ≡ true → IsOver unread s.flow

-- nothing was taken or given yet
abbrev pub IsNew : {E : Type 0} → Frame → Recoding → Option (ReadSide E) → Type 0
IsNew form job None = ⊤
IsNew form job (Some s) = (unread : Option (List ℕ)) → IsReadSo form job unread [] [] s

-- the same after an error, unless memory ran out
abbrev pub IsReadOrBroken : {E : Type 0} → Frame → Recoding → Option (List ℕ) → List ℕ → List ℕ → ReadSide E → Type 0
IsReadOrBroken form job unread bytes out s = IsReadSo form job unread bytes out s ⊎ (s.flow.broken ≡ true)

-- bytes are taken from the reader inside, and nothing is given yet
abbrev pub Steps : {E : Type 0} → Option (List ℕ) → ReadSide E → Option (List ℕ) → ReadSide E → Type 0
Steps unread s left t =
    (form : Frame) (job : Recoding) (bytes out : List ℕ) → IsReadSo form job unread bytes out s
    → (taken : List ℕ) × Consumes unread left taken × IsReadSo form job left (bytes ++ taken) out t

-- the same, unless memory runs out
abbrev pub StepsOrBreaks : {E : Type 0} → Option (List ℕ) → ReadSide E → Option (List ℕ) → ReadSide E → Type 0
StepsOrBreaks unread s left t =
    (form : Frame) (job : Recoding) (bytes out : List ℕ) → IsReadSo form job unread bytes out s
    → (taken : List ℕ) × Consumes unread left taken × IsReadOrBroken form job left (bytes ++ taken) out t

-- bytes are taken from the reader inside, and these are given
abbrev pub Gives : {E : Type 0} → Option (List ℕ) → ReadSide E → Option (List ℕ) → ReadSide E → List ℕ → Type 0
Gives unread s left t given =
    (form : Frame) (job : Recoding) (bytes out : List ℕ) → IsReadSo form job unread bytes out s
    → (taken : List ℕ) × Consumes unread left taken × IsReadSo form job left (bytes ++ taken) (out ++ given) t

-- a read gives the first bytes of a buffer, or nothing after an error
abbrev pub ReadsOn : {E F : Type 0} → Option (List ℕ) → ReadSide E → Option (List ℕ) → ReadSide E → Result ℕ F → List ℕ → Type 0
ReadsOn unread s left t result buf =
    IfOk result (λ n. Gives unread s left t (take n buf)) × OnErr result (StepsOrBreaks unread s left t)

-- all was given
abbrev pub IsEnd : {E : Type 0} → ReadSide E → Type 0
IsEnd s = (s.ended ≡ true) × (s.flow.queue ≡ [])
