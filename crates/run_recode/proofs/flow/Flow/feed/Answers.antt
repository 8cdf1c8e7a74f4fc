use Rattle.run_recode.proofs.Flows.{fed}
use Rattle.run_recode.proofs.flow.Flow.feed.Goals as goal

pub returns-clause-goes_on : goal.returns-clause-goes_on
returns-clause-goes_on g c = fed c.args.recoding.now c.args.self.now _ c.args.piece.now c.in_ok-recoded.field-0.items c.requires
    c.in_ok-recoded.ensures.recoded c.put.ensures
