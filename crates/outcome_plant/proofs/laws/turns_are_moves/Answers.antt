use Rattle.outcome_plant.proofs.Driving.{as_moves, turned}
use Rattle.outcome_plant.proofs.laws.turns_are_moves.Goals as goal

pub returns : goal.returns
returns c = λ t r m p q a h g clean k. as_moves p q m a (turned t r m p q a h g clean k)
