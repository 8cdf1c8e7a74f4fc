use Rattle.cli_step.proofs.Playing.{if_err}
use Rattle.cli_step.proofs.Prompting.{fault_more}
use Rattle.cli_step.proofs.opening.open_over.Goals as goal

pub returns-clause-fault : goal.returns-clause-fault
returns-clause-fault g c = if_err c.talk_over.result (λ e fault. fault_more (λ made. (_, _, made)) e fault) c.talk_over.ensures.fault

pub returns-clause-refused : goal.returns-clause-refused
returns-clause-refused g c = rw c.in_ok-code.ensures at c.talk_over.ensures.refused
