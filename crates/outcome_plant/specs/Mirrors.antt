-- The plant of the outcome law that represents a plant.
use Rattle.std.specs.Prelude.{◌≡◌, ◌≤◌, ℕ, false, List, [], ◌∷◌, ◌++◌, length, Option}
use Rattle.flow_model.specs.declared.flow.Flow.{Flow}
use Rattle.outcome_calls.specs.Plant.{SessionEvent, AbstractPlant, PlantFits}
use Rattle.tx_history.specs.declared.event.Event.{Event}
use Rattle.tx_history.specs.History.{Start}
use Rattle.outcome_history.specs.Looked.{id_view}
use Rattle.outcome_history.specs.Sessions.{session_event, session_events}
use Rattle.journal_store.specs.Histories.{Holds}
use Rattle.tx_engine.specs.World.{World}
use Rattle.tx_plant.specs.declared.seat.Seat.{Seat}
use Rattle.tx_plant.specs.Core.{seat_of}
use Rattle.tx_plant.specs.Plant.{IsClean, IsEngine, Seen, Whole}
use Rattle.outcome_plant.specs.Deeds.{kept_reply}

-- the events after those of done
abbrev pub later_events : Flow → Start → List Event → List Event → List SessionEvent
later_events f v done [] = []
later_events f v done (e ∷ more) = session_event f v (more ++ done) e ∷ later_events f v done more

-- It begins with the same view, has the same entries, of which as many are written as the mark says, and keeps the same
-- replies. The tables hold the journal of the written entries, unless the disk did not return what was written, or the
-- journal has failed.
pub record Mirrors (w : World) (seat : ℕ → Option Seat) (j : Seen) (a : AbstractPlant) : Type 0 where
  pub engine : IsEngine w
  pub sessions : 1 ≤ w.sessions
  pub more : List Event
  pub done : List Event
  pub past : w.past ≡ more ++ done
  pub start : a.start ≡ id_view w.flow w.start.view
  pub late : a.late ≡ later_events w.flow w.start done more
  pub gone : a.gone ≡ session_events w.flow w.start done
  pub marked : a.mark ≡ w.mark
  pub written : w.mark ≡ length done
  pub kept : (s : ℕ) → a.kept s ≡ kept_reply (seat s)
  pub tables : IsClean j → j.failed ≡ false → Holds j.tables w.flow w.start done
  pub fits : PlantFits w.flow a

-- the same of a whole plant
abbrev pub StandsFor : AbstractPlant → Whole → Type 0
StandsFor a p = Mirrors p.core.world (seat_of p.core) p.journal a
