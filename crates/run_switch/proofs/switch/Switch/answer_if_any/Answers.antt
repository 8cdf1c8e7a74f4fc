use Rattle.run_switch.proofs.Rounds.{reports_none}
use Rattle.run_switch.proofs.switch.Switch.answer_if_any.Goals as goal

pub returns-in-None-clause-serves : goal.returns-in-None-clause-serves
returns-in-None-clause-serves g c = rw c.in-None.is (reports_none _ _ _)
