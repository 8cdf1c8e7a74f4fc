-- The lines of a run's numbers, and those in words.
use Rattle.std.specs.Prelude.{◌≡◌, ◌/◌, ◌-◌, ℕ, Bool, true, false, ◌&&◌, nat_lt, List, [], filter, length, Option, Some, None}
use Rattle.std.specs.Io.KnownBytes.{Appends}
use Rattle.cli_io.specs.Written.{AppendsBeginning}
use Rattle.sw_stats.specs.Line.{Numbers, stats_line}
use Rattle.tx_history.specs.History.{is_committing}
use Rattle.tx_history.specs.declared.journal.JournalView.{JournalView}
use Rattle.tx_history.specs.declared.journal.Row.{Row}
use Rattle.tx_plant.specs.Plant.{Whole}
use Rattle.run_reports.specs.Hosts.{AreHostLines, AreNews, names_in}
use Rattle.run_reports.specs.Ready.{ready_lines}
use Rattle.run_reports.specs.declared.ready.Recovered.{Recovered}
use Rattle.run_reports.specs.declared.Words.{Words}
use Rattle.run_switch.specs.declared.stats.Stats.{Stats}
use Rattle.run_switch.specs.Numbers.{numbers_at}
use Rattle.run_switch.specs.Points.{Point}
use Rattle.run_switch.specs.Lines.{Line}
use Rattle.run_switch.specs.Traces.{Log, Tells}

-- a text where it is wanted, and nothing otherwise
abbrev pub if_shown : Bool → List ℕ → List ℕ
if_shown true text = text
if_shown false text = []

-- The line of these numbers was shown, where it is wanted, with some time: all of it is written, or, where a write failed, a
-- beginning.
pub record ShowsNumbers (numbers : Numbers) (a b : Log) : Type 0 where
  pub milliseconds : ℕ
  pub wanted : b.wanted ≡ a.wanted
  pub wants : b.wants ≡ a.wants
  pub passed : b.passed ≡ a.passed
  pub before : b.lost ≡ false → a.lost ≡ false
  pub adds : b.lost ≡ false → Appends a.text b.text (if_shown a.wants.stats (stats_line numbers milliseconds))
  pub some : AppendsBeginning a.text b.text (if_shown a.wants.stats (stats_line numbers milliseconds))
  pub recording : b.recording ≡ a.recording

-- These lines were written: all of them, or, where a write failed, a beginning.
pub record Writes (text : List ℕ) (a b : Log) : Type 0 where
  pub wanted : b.wanted ≡ a.wanted
  pub wants : b.wants ≡ a.wants
  pub passed : b.passed ≡ a.passed
  pub before : b.lost ≡ false → a.lost ≡ false
  pub adds : b.lost ≡ false → Appends a.text b.text text
  pub some : AppendsBeginning a.text b.text text
  pub recording : b.recording ≡ a.recording

-- Lines in words were written, none where they are not wanted. If none are lost, all has this property.
pub record Says (P : List ℕ → Type 0) (a b : Log) : Type 0 where
  pub text : List ℕ
  pub writes : Writes text a b
  pub quiet : a.wants.words ≡ false → text ≡ []
  pub whole : b.lost ≡ false → P text

-- that a run is ready, after what it recovered
abbrev pub ready_text : Option Words → Recovered → List ℕ
ready_text None recovered = []
ready_text (Some w) recovered = ready_lines w.ready recovered

-- it was reported that a run is ready, and what it recovered
abbrev pub SaysReady : Option Words → Recovered → Log → Log → Type 0
SaysReady words recovered a b = Says (λ text. text ≡ ready_text words recovered) a b

-- the names of the hosts of which is reported
abbrev pub hosts_of : Option Words → List (List ℕ)
hosts_of None = []
hosts_of (Some w) = names_in w.hosts

-- what is new of these hosts
abbrev pub SaysNews : List (List ℕ) → Log → Log → Type 0
SaysNews names a b = Says (AreNews names) a b

-- the lines of these hosts' counts, or nothing where numbers are not wanted
abbrev pub CountsIf : Bool → List (List ℕ) → List ℕ → Type 0
CountsIf true names text = AreHostLines names text
CountsIf false names text = text ≡ []

-- the counts of these hosts, where numbers are wanted
abbrev pub SaysCounts : List (List ℕ) → Log → Log → Type 0
SaysCounts names a b = Says (CountsIf a.wants.stats names) a b

-- after how many requests a line is reported
abbrev pub every_of : Option Stats → Option ℕ
every_of None = None
every_of (Some s) = s.every

-- a multiple of that number lies above `before`, and not above `now`
abbrev pub is_due : Option ℕ → ℕ → ℕ → Bool
is_due None before now = false
is_due (Some n) before now = nat_lt 0 n && nat_lt (before / n) (now / n)

-- the line was shown, and the counts of these hosts, if it has come due since `before` requests were answered
abbrev pub ShowsIf : Bool → Numbers → List (List ℕ) → Log → Log → Type 0
ShowsIf true numbers names a b = (between : Log) × ShowsNumbers numbers a between × SaysCounts names between b
ShowsIf false numbers names a b = b ≡ a

-- what is new of these hosts, then the line and their counts, if they have come due
abbrev pub ShowsSince : Option ℕ → ℕ → Numbers → List (List ℕ) → Log → Log → Type 0
ShowsSince every before numbers names a b =
    (between : Log) × SaysNews names a between × ShowsIf (is_due every before numbers.tally.requests) numbers names between b

-- what a run writes to standard error: lines of its history, and messages that are passed over; at the end, its numbers
pub record TellsAll (lines : List Line) (passed : ℕ) (end : Point) (a b : Log) : Type 0 where
  pub between : Log
  pub tells : Tells lines passed a between
  pub shows : ShowsNumbers (numbers_at end between.passed) between b

-- how many transactions are committing in a journal
abbrev pub committing_in : List (ℕ × Row) → ℕ
committing_in rows = length (filter (λ row. is_committing row.1.phase) rows)

-- the unfinished transactions of a journal: those that are committing are committed, all others are aborted
abbrev pub unfinished_in : JournalView → Recovered
unfinished_in view = record { committed = committing_in view.rows; aborted = length view.rows - committing_in view.rows }

-- the same of the journal that a plant was made on
abbrev pub unfinished_of : Whole → Recovered
unfinished_of made = unfinished_in made.core.world.start.view

-- that it is ready comes before all that a run writes to standard error
pub record TellsRun (words : Option Words) (recovered : Recovered) (lines : List Line) (passed : ℕ) (end : Point) (a b : Log) : Type 0 where
  pub begun : Log
  pub ready : SaysReady words recovered a begun
  pub all : TellsAll lines passed end begun b
