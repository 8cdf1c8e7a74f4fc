-- The log of a run: the lines of the transactions that were answered.
use Rattle.std.specs.Prelude.{◌≡◌, ℕ, Bool, true, false, List, [], ◌∷◌, ◌++◌, Option}
use Rattle.std.specs.Io.KnownBytes.{Appends}
use Rattle.std.specs.List.{flat_map}
use Rattle.std.specs.Option.{option_to_list}
use Rattle.sw_log.specs.Line.{record_line}
use Rattle.sw_log.specs.declared.line.Times.{Times}
use Rattle.sw_record.specs.declared.record.Record.{Record}
use Rattle.run_switch.specs.Lines.{Line}
use Rattle.run_switch.specs.declared.record_log.RecordLog.{RecordLog}

-- the records of the transactions that end with the entries of these lines
abbrev pub records_in : List Line → List Record
records_in lines = flat_map (λ (l : Line). option_to_list l.recorded) lines

-- the lines of these records, one after the other, each with some times
abbrev pub AreLines : List Record → List ℕ → Type 0
AreLines [] text = text ≡ []
AreLines (r ∷ rs) text = (times : Times) × (more : List ℕ) × AreLines rs more × (text ≡ record_line r times ++ more)

-- a beginning of the line of each, one after the other
abbrev pub AreBegunLines : List Record → List ℕ → Type 0
AreBegunLines [] text = text ≡ []
AreBegunLines (r ∷ rs) text = (times : Times) × (first rest more : List ℕ) × (record_line r times ≡ first ++ rest) × AreBegunLines rs more
    × (text ≡ first ++ more)

-- the log as a run sees it: whether it is wanted, whether a write failed, and what is written, where that is known
pub record Recording : Type 0 where
  pub wanted : Bool
  pub lost : Bool
  pub text : Option (List ℕ)

-- what contracts see of a log; `contents` says what an output holds, where that is known
abbrev pub recording_of : {E K : Type 0} → (E → Option (List ℕ)) → RecordLog E K → Recording
recording_of contents log = record { wanted = log.wanted; lost = log.lost; text = contents log.out.now }

-- the records of these lines, where the log is wanted
abbrev pub if_kept : Bool → List Line → List Record
if_kept true lines = records_in lines
if_kept false lines = []

-- the lines of these records were added, and nothing else
pub record AddsRecords (rs : List Record) (before after : Option (List ℕ)) : Type 0 where
  pub text : List ℕ
  pub lines : AreLines rs text
  pub written : Appends before after text

-- of each of these lines a beginning was added, all of it, or none, and nothing else
pub record BeginsRecords (rs : List Record) (before after : Option (List ℕ)) : Type 0 where
  pub text : List ℕ
  pub begun : AreBegunLines rs text
  pub written : Appends before after text

-- The records of the transactions that end with the entries of these lines were written, each once and in this order, if the log is
-- wanted: all is written, or, where a write failed, beginnings of these lines.
pub record Records (lines : List Line) (a b : Recording) : Type 0 where
  pub wanted : b.wanted ≡ a.wanted
  pub before : b.lost ≡ false → a.lost ≡ false
  pub adds : b.lost ≡ false → AddsRecords (if_kept a.wanted lines) a.text b.text
  pub some : BeginsRecords (if_kept a.wanted lines) a.text b.text
