-- A whole run.
--
-- - *Begins, serves all, ran, printed*: the making and recovery of a run; all that
--   follows; both; a run without an input.
use Rattle.std.specs.Prelude.{◌≡◌, ℕ, List, ◌++◌, Option}
use Rattle.std.specs.Io.KnownBytes.{Appends}
use Rattle.flow_model.specs.declared.flow.Flow.{Flow}
use Rattle.sw_issuers.specs.Sending.{PlainSender}
use Rattle.tx_history.specs.declared.journal.JournalView.{JournalView}
use Rattle.tx_plant.specs.Plant.{Seen, Whole}
use Rattle.tx_seats.specs.Drives.{IsMade}
use Rattle.run_switch.specs.Points.{IsAtRest, IsReady, Point, world_at}
use Rattle.run_switch.specs.Rounds.{Drains, IsEmptied, MayCut, Recovers, Round}
use Rattle.run_switch.specs.declared.reporter.LineForm.TheVariants.{Text}
use Rattle.run_switch.specs.Lines.{Line, lines_in, written_as}
use Rattle.run_switch.specs.Advices.{AdviceStep, PlainAdvisor, SendsAll, begun_advisor, stored_at}
use Rattle.run_switch.specs.Legs.{Advances, Stage, lines_of, stage}
use Rattle.run_switch.specs.Numbers.{begun_in}
use Rattle.run_switch.specs.Shown.{TellsRun, unfinished_in}
use Rattle.run_switch.specs.Traces.{Log}
use Rattle.run_reports.specs.declared.Words.{Words}
use Rattle.run_reports.specs.declared.ready.Recovered.{Recovered}

-- a new plant: responses of the journal's own transactions are not to be given, and nothing is counted
abbrev pub made_at : Whole → JournalView → Point
made_at made view = record { plant = made; answered = begun_in made.core.world view.next_id }

-- The beginning of a run: a plant is made on the view of the journal, and recovers.
pub record Begins (f : Flow) (sessions : ℕ) (j : Seen) (p : Point) : Type 0 where
  pub view : JournalView
  pub made : Whole
  pub is_made : IsMade f sessions view j made
  pub recovers : Recovers (made_at made view) p

-- A run once its plant has recovered: what sends its advices, by the id of its first own transaction, and what the journal had
-- unfinished.
pub record HasBegun (f : Flow) (sessions : ℕ) (j : Seen) (sender : PlainSender) (most : ℕ) (p : Point) (advisor : PlainAdvisor)
    (unfinished : Recovered) : Type 0 where
  pub begins : Begins f sessions j p
  pub advisor_is : advisor ≡ begun_advisor sender most begins.view.next_id
  pub unfinished_is : unfinished ≡ unfinished_in begins.view

-- The history may be cut first. The rounds are done, in which requests are offered when the switch is ready for them, and answered before the next
-- are, and stored advices are sent between them; the queue and the shelf are emptied; then each stored advice is sent, and dropped where it is
-- accepted.
pub record ServesAll (step : AdviceStep) (rounds : List Round) (p : Point) (advisor : PlainAdvisor) (before after : Option (List ℕ)) : Type 0 where
  pub begun : Point
  pub cut : List Line
  pub cuts : MayCut p cut begun
  pub ready : IsReady begun
  pub served : Stage
  pub serves : Advances step rounds (stage advisor begun before) served
  pub drained : Point
  pub drains : Drains served.point served.out drained after
  pub sent : PlainAdvisor
  pub end : Point
  pub sends : SendsAll step (stored_at drained) served.advisor drained sent end
  pub rest : IsAtRest end
  pub emptied : IsEmptied (world_at end)

-- the lines of the entries that were cut till then, each once, the oldest first
abbrev pub lines_cut : {step : AdviceStep} {rounds : List Round} {p : Point} {advisor : PlainAdvisor} {before after : Option (List ℕ)} →
    ServesAll step rounds p advisor before after → List Line
lines_cut s = s.cut ++ (lines_of s.serves ++ s.drains.serves.lines)

-- and with those of the history that is left
abbrev pub all_lines : {step : AdviceStep} {rounds : List Round} {p : Point} {advisor : PlainAdvisor} {before after : Option (List ℕ)} →
    ServesAll step rounds p advisor before after → List Line
all_lines s = lines_cut s ++ lines_in (world_at s.end)

-- and all that a run writes to standard error was written: that it is ready first, the numbers last
abbrev pub ServesTold : AdviceStep → List Round → Point → PlainAdvisor → Option (List ℕ) → Option (List ℕ) → Option Words → Recovered → ℕ → Log → Log →
    Type 0
ServesTold step rounds p advisor before after words unfinished passed a b =
    (all : ServesAll step rounds p advisor before after) × TellsRun words unfinished (all_lines all) passed all.end a b

-- the queue and the shelf are emptied; then each stored advice is sent
pub record Closes (step : AdviceStep) (p : Point) (advisor : PlainAdvisor) (before : Option (List ℕ)) (q : Point) (sent : PlainAdvisor)
    (after : Option (List ℕ)) : Type 0 where
  pub drained : Point
  pub drains : Drains p before drained after
  pub sends : SendsAll step (stored_at drained) advisor drained sent q
  pub rest : IsAtRest q
  pub emptied : IsEmptied (world_at q)

-- A run with an input: it recovers first. Between two reads it sends at most `most` stored advices.
pub record Ran (f : Flow) (sessions : ℕ) (j : Seen) (step : AdviceStep) (sender : PlainSender) (most : ℕ) (rounds : List Round)
    (before after : Option (List ℕ)) : Type 0 where
  pub recovered : Point
  pub begins : Begins f sessions j recovered
  pub serves : ServesAll step rounds recovered (begun_advisor sender most begins.view.next_id) before after

-- A run without one: it recovers, and prints the lines of its history.
pub record Printed (f : Flow) (sessions : ℕ) (j : Seen) (before after : Option (List ℕ)) : Type 0 where
  pub recovered : Point
  pub begins : Begins f sessions j recovered
  pub prints : Appends before after (written_as Text (lines_in (world_at recovered)))
