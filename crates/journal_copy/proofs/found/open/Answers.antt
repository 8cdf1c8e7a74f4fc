use Rattle.journal_copy.proofs.Founding.{bad_opened}
use Rattle.journal_copy.proofs.found.open.Goals as goal

pub returns-in-Err-clause-bad : goal.returns-in-Err-clause-bad
returns-in-Err-clause-bad g c = bad_opened g.S.Store c.args.conn c.in-Err.left c.in-Err.error c.unopened.result c.unopened.ensures c.in-Err.ensures.names
