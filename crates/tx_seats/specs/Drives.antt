-- What is done with a plant: it is made on the view of a journal, and driven any number of times.
use Rattle.std.specs.Prelude.{◌≡◌, ℕ, List, [], ◌∷◌, ◌++◌}
use Rattle.flow_model.specs.declared.flow.Flow.{Flow}
use Rattle.tx_history.specs.declared.journal.JournalView.{JournalView}
use Rattle.tx_plant.specs.declared.turn.DriveFault.{DriveFault}
use Rattle.tx_plant.specs.declared.turn.Outcome.{Outcome}
use Rattle.tx_plant.specs.declared.turn.Turn.{Turn}
use Rattle.tx_plant.specs.Core.{without_ended}
use Rattle.tx_plant.specs.Steps.{Moved}
use Rattle.tx_plant.specs.Plant.{Driven, Faulted, IsEngine, Opened, Seen, Whole}

-- a call of `drive` that did all its turns, or one that a fault ended; or a call of `take_ended`
pub data Drive : Type 0 where
  Done : (turns : List Turn) → (outcomes : List Outcome) → Drive
  Broken : (turns : List Turn) → (fault : DriveFault) → Drive
  TookEnded : Drive

-- what such a call did, from one plant to the next
abbrev pub DrivenBy : Drive → List Moved → Whole → Whole → Type 0
DrivenBy (Done turns outcomes) m p q = Driven turns outcomes m p q
DrivenBy (Broken turns fault) m p q = Faulted turns fault m p q
DrivenBy TookEnded m p q = (m ≡ []) × (q ≡ record p { core = without_ended p.core })

-- one after the other
abbrev pub AllDriven : List Drive → List Moved → Whole → Whole → Type 0
AllDriven [] m p q = (m ≡ []) × (q ≡ p)
AllDriven (d ∷ ds) m p q = (w : Whole) × (first : List Moved) × (later : List Moved) × DrivenBy d first p w × AllDriven ds later w q × (m ≡ first ++ later)

-- a plant as it is made: its engine was opened on the view of a journal
pub record IsMade (f : Flow) (n : ℕ) (view : JournalView) (j : Seen) (p : Whole) : Type 0 where
  pub opened : Opened f n view j p.core p.journal
  pub engine : IsEngine p.core.world
