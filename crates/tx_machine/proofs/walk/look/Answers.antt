use Rattle.tx_machine.proofs.StepsAhead.{ahead}
use Rattle.tx_machine.proofs.walk.look.Goals as goal

pub returns-clause-ahead : goal.returns-clause-ahead
returns-clause-ahead c = ahead c.args.code.now c.args.step c.look.result c.look.ensures.view
