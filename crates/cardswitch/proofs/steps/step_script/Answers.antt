use Rattle.cardswitch.proofs.Stepping.{step_failed, stepped}
use Rattle.cardswitch.proofs.steps.step_script.Goals as goal

pub returns-clause-stepped : goal.returns-clause-stepped
returns-clause-stepped g c = stepped c.args.path c.file_flow-file.result _ _ _ c.step_over.result c.file_flow-file.ensures.flow c.step_over.ensures.no_flow
    c.step_over.ensures.ran

pub returns-clause-failed : goal.returns-clause-failed
returns-clause-failed g c = step_failed c.args.path c.file_flow-file.result _ _ c.step_over.result c.file_flow-file.ensures.failed
    c.step_over.ensures.no_flow c.step_over.ensures.failed
