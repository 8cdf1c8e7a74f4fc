use Rattle.outcome_history.proofs.AdvicesByPlace.{put_at_place}
use Rattle.outcome_history.proofs.laws.advices_by_place.Goals as goal

pub returns : goal.returns
returns c = put_at_place
