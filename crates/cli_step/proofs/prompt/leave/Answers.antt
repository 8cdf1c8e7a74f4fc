use Rattle.cli_step.proofs.Prompting.{beginning_grows}
use Rattle.cli_step.proofs.prompt.leave.Goals as goal

pub returns-in_err-write_out-clause-grows : goal.returns-in_err-write_out-clause-grows
returns-in_err-write_out-clause-grows g c = beginning_grows _ _ _ c.write_out.ensures.beginning

pub returns-clause-grows : goal.returns-clause-grows
returns-clause-grows g c = (_, c.in_ok-write_out.ensures.written)
