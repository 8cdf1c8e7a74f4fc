-- A plant's whole life: made on a journal's view, and driven any number of times.
use Rattle.std.specs.Prelude.{◌≡◌, ◌≤◌, ◌-◌, ℕ, false, List, [], ◌∷◌, ◌++◌, length, drop, ◌+◌, Option, ⊤}
use Rattle.flow_model.specs.declared.flow.Flow.{Flow}
use Rattle.outcome_calls.specs.Core.{Halted, OutcomeLaw, PlantDeed}
use Rattle.outcome_calls.specs.Plant.{AbstractPlant, PlantMove, PlantRun}
use Rattle.tx_history.specs.declared.event.Event.{Event}
use Rattle.tx_history.specs.declared.journal.JournalView.{JournalView}
use Rattle.tx_history.specs.Journal.{journal}
use Rattle.outcome_history.specs.Looked.{id_view}
use Rattle.journal_rows.specs.Tables.{Tables, all_made}
use Rattle.journal_rows.specs.Law.{changes_of}
use Rattle.journal_store.specs.Histories.{Holds}
pub use Rattle.journal_store.specs.Opened.{blank_view}
use Rattle.tx_engine.specs.World.{World}
use Rattle.tx_plant.specs.Steps.{Moved}
use Rattle.tx_plant.specs.Plant.{IsClean, IsEngine, Seen, Whole, batch, count_of, late}
use Rattle.tx_plant.specs.Written.{IsLeftover}
use Rattle.outcome_plant.specs.Deeds.{deeds}
use Rattle.outcome_plant.specs.Mirrors.{StandsFor}
use Rattle.tx_seats.specs.Drives.{Drive, AllDriven, IsMade}

-- One turn, or more: small steps of the outcome law's plant, which add the calls and stops that happened, lead to one that
-- represents the plant then.
pub record Moves (p q : Whole) (m : List Moved) (a : AbstractPlant) : Type 0 where
  pub to : AbstractPlant
  pub moves : List PlantMove
  pub run : PlantRun p.core.world.flow moves a to
  pub calls : to.calls ≡ deeds p.core.world.flow m ++ a.calls
  pub stands : StandsFor to q
  pub flow : q.core.world.flow ≡ p.core.world.flow

-- this many of the entries' events, the oldest ones, and the journal that they make
abbrev pub oldest : World → ℕ → List Event
oldest w k = drop (length w.past - k) w.past

abbrev pub journal_of : World → ℕ → JournalView
journal_of w k = journal w.flow w.start (oldest w k)

-- the tables represent that journal, and no row of them is at fault
abbrev pub HaveWritten : Tables → World → ℕ → Type 0
HaveWritten t w k = Holds t w.flow w.start (oldest w k)

-- The outcome law of these calls, with the stops between them, and of the journal that the written entries make, alone or with
-- any number of the next ones: a write that failed may have written these. The tables represent the written entries' journal,
-- unless a write failed.
pub record HoldsOf (calls : List PlantDeed) (q : Whole) : Type 0 where
  pub engine : IsEngine q.core.world
  pub law : (k : ℕ) → q.core.world.mark ≤ k → k ≤ length q.core.world.past → OutcomeLaw calls (id_view q.core.world.flow (journal_of q.core.world k))
  pub tables : q.journal.failed ≡ false → HaveWritten q.journal.tables q.core.world q.core.world.mark

-- What a write that fails may leave instead of the tables as they were: the tables after all its entries. They hold the
-- journal of these too, and the law holds of it.
abbrev pub MayLeave : Whole → Option ℕ → Type 0
MayLeave q most =
    HaveWritten (all_made (changes_of (batch q.core.world most)) q.journal.tables) q.core.world
    (q.core.world.mark + count_of most (length (late q.core.world)))

-- tables of such a plant that a stop left: they hold the journal of its written entries, or of this many more
abbrev pub IsLeft : Whole → ℕ → Tables → Type 0
IsLeft q more t = IsLeftover q.core.world more t

-- all calls ever made, and the making of the plant as a stop
abbrev pub all_calls : Flow → List Moved → JournalView → List PlantDeed → List PlantDeed
all_calls f m view before = deeds f m ++ Halted (id_view f view) ∷ before

-- From the making of a plant to a stop, wherever that comes: if within a write, the call of `drive` or `recover` ends there.
pub record Life : Type 0 where
  pub sessions : ℕ
  -- the journal as it was opened, and the view that the plant was made on
  pub found : Seen
  pub view : JournalView
  pub first : Whole
  pub drives : List Drive
  pub moves : List Moved
  pub last : Whole

-- the plant was made and driven so, and the disk returned what was written
pub record IsLife (f : Flow) (l : Life) : Type 0 where
  pub made : IsMade f l.sessions l.view l.found l.first
  pub driven : AllDriven l.drives l.moves l.first l.last
  pub clean : IsClean l.last.journal

-- Lives, the newest first: the oldest begins on a blank journal, and each later one on tables that the stop of the one before
-- it left.
abbrev pub BeginsOn : Life → List Life → Type 0
BeginsOn l [] = l.view ≡ blank_view
BeginsOn l (before ∷ ls) = (more : ℕ) × IsLeft before.last more l.found.tables

abbrev pub AreLives : Flow → List Life → Type 0
AreLives f [] = ⊤
AreLives f (l ∷ ls) = IsLife f l × BeginsOn l ls × AreLives f ls

-- the calls made in all of them, with the stops between them
abbrev pub calls_in : Flow → List Life → List PlantDeed
calls_in f [] = []
calls_in f (l ∷ ls) = all_calls f l.moves l.view (calls_in f ls)
