use Rattle.outcome_calls.proofs.PlantMoves.{plant_kept}
use Rattle.outcome_calls.proofs.laws.plant_law.Goals as goal

pub returns : goal.returns
returns c = plant_kept
