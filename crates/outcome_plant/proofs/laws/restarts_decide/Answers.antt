use Rattle.outcome_plant.proofs.Restarts.{turn_decided}
use Rattle.outcome_plant.proofs.laws.restarts_decide.Goals as goal

pub returns : goal.returns
returns c = turn_decided
