use Rattle.outcome_plant.proofs.Making.{blank_keeps, made_again, may_leave, plants_keep}
use Rattle.outcome_plant.proofs.laws.plants_keep_the_law.Goals as goal

pub returns : goal.returns
returns c = record { kept = plants_keep; blank = blank_keeps; again = made_again; left = may_leave }
