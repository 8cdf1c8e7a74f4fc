use Rattle.outcome_plant.proofs.Making.{lives_keep, made_on_left}
use Rattle.outcome_plant.proofs.laws.stops_keep_the_law.Goals as goal

pub returns : goal.returns
returns c = record { opened = λ n more v calls q p j. made_on_left n more v calls q p j; lives = lives_keep }
