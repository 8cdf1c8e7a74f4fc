use Rattle.cardswitch.proofs.Openings.{new_journal}
use Rattle.cardswitch.proofs.journals.open_in_memory.Goals as goal

pub returns-in-Ok-clause-journal : goal.returns-in-Ok-clause-journal
returns-in-Ok-clause-journal c = new_journal c.in-Ok.conn c.open.result c.in-Ok.ensures.empty c.open.ensures.journal
