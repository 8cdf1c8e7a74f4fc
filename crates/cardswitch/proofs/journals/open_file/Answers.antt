use Rattle.cardswitch.proofs.Openings.{of_file}
use Rattle.cardswitch.proofs.journals.open_file.Goals as goal

pub returns-in-Ok-clause-journal : goal.returns-in-Ok-clause-journal
returns-in-Ok-clause-journal c = of_file _ c.args.path.now c.in-Ok.conn _ c.open_at.result c.in-Ok.ensures.memory c.in-Ok.ensures.fresh
    c.in-Ok.ensures.opened c.open_at.ensures.journal
