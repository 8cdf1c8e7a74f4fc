use Rattle.flow_model.proofs.ParticipantBounds.{named_of_participants}
use Rattle.flow_model.proofs.bounds.entries_have_participants.Goals as goal

pub returns : goal.returns
returns c = λ name. named_of_participants c.args.flow.now name
