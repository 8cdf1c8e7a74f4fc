use Rattle.std.proofs.Common.{◌∙◌, sym}
use Rattle.cli_step.proofs.Prompting.{other_fault}
use Rattle.cli_step.proofs.script.plant_refused.Goals as goal

pub returns-then-not-is_of_sessions-clause-fault : goal.returns-then-not-is_of_sessions-clause-fault
returns-then-not-is_of_sessions-clause-fault c =
    rw c.at_line.ensures (other_fault c.args.line c.args.cause (sym c.is_of_sessions.ensures ∙ c.if-not-is_of_sessions.true))
