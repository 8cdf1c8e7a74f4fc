use Rattle.flow_model.proofs.ParticipantBounds.{few_participants}
use Rattle.flow_model.proofs.bounds.participants_are_few.Goals as goal

pub returns : goal.returns
returns c = few_participants c.args.flow.now c.requires
