-- The calls that a run makes.
use Rattle.std.specs.Prelude.{◌≡◌, ℕ, List}
use Rattle.flow_model.specs.declared.flow.Flow.{Flow}
use Rattle.tx_history.specs.declared.journal.JournalView.{JournalView}
use Rattle.outcome_calls.specs.Core.{PlantDeed}
use Rattle.tx_plant.specs.Plant.{Seen, Whole}
use Rattle.tx_plant.specs.Steps.{Moved}
use Rattle.outcome_plant.specs.Lives.{HoldsOf, IsLife, Life, all_calls}
use Rattle.tx_seats.specs.Drives.{AllDriven, Drive}

-- calls of `drive` lead from a new plant to its last state, and the outcome law holds of all calls
pub record Keeps (f : Flow) (view : JournalView) (made : Whole) (calls : List PlantDeed) (end : Whole) : Type 0 where
  pub drives : List Drive
  pub moves : List Moved
  pub driven : AllDriven drives moves made end
  pub holds : HoldsOf (all_calls f moves view calls) end

-- the life of a plant: opened on this journal and view, and left in this state
pub record IsLifeOf (f : Flow) (sessions : ℕ) (found : Seen) (view : JournalView) (end : Whole) (l : Life) : Type 0 where
  pub is_life : IsLife f l
  pub sessions_are : l.sessions ≡ sessions
  pub found_is : l.found ≡ found
  pub view_is : l.view ≡ view
  pub last_is : l.last ≡ end
