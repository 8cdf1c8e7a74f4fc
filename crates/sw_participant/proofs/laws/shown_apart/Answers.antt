use Rattle.sw_participant.proofs.Trees.{shown_once}
use Rattle.sw_participant.proofs.laws.shown_apart.Goals as goal

pub returns : goal.returns
returns g c = shown_once
