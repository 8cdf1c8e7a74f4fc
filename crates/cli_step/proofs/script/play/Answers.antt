use Rattle.cli_step.proofs.Joining.{any_err, grows_none}
use Rattle.cli_step.proofs.script.play.Goals as goal

pub returns-in_err-push-clause-grown : goal.returns-in_err-push-clause-grown
returns-in_err-push-clause-grown g c = any_err _ (grows_none _)

pub returns-in_err-own_participant-in-Switch-clause-grown : goal.returns-in_err-own_participant-in-Switch-clause-grown
returns-in_err-own_participant-in-Switch-clause-grown g c = any_err _ (grows_none _)

pub returns-in_err-copy-clause-grown : goal.returns-in_err-copy-clause-grown
returns-in_err-copy-clause-grown g c = any_err _ (grows_none _)
