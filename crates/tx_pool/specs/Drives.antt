-- A run is a drive of the plant.
use Rattle.std.specs.Prelude.{◌≡◌, ℕ, List, length}
use Rattle.sw_participant.specs.Chains.{Rule}
use Rattle.tx_plant.specs.declared.turn.Outcome.{Outcome}
use Rattle.tx_plant.specs.declared.turn.Turn.{Turn}
use Rattle.tx_plant.specs.Plant.{Drives, Whole}

-- turns that were done, each accepted, which lead from these stations, counts and plant to those
pub record Drove (rule : ℕ → Rule) (os : List (List ℕ)) (cs : List ℕ) (p : Whole) (ps : List (List ℕ)) (ds : List ℕ) (q : Whole) : Type 0 where
  pub turns : List Turn
  pub outcomes : List Outcome
  pub drives : Drives rule os cs turns outcomes p ps ds q
  pub seats : length q.core.seats ≡ q.core.world.sessions
