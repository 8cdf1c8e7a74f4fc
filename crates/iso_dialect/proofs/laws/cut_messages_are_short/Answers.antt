use Rattle.iso_dialect.proofs.CutMessages.{cut_is_short}
use Rattle.iso_dialect.proofs.laws.cut_messages_are_short.Goals as goal

pub returns : goal.returns
returns c = cut_is_short
