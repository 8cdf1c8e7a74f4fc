use Rattle.cardswitch.proofs.Stepping.{checked_file, prompt_failed, prompted}
use Rattle.cardswitch.proofs.steps.step_prompted.Goals as goal

pub prompt_over-requires : goal.prompt_over-requires
prompt_over-requires g c = checked_file c.args.path c.file_flow-file.result c.file_flow-file.ensures.flow

pub returns-clause-prompted : goal.returns-clause-prompted
returns-clause-prompted g c = prompted c.args.path c.file_flow-file.result _ _ _ _ _ c.prompt_over.result c.file_flow-file.ensures.flow
    c.prompt_over.ensures.no_flow c.prompt_over.ensures.prompted

pub returns-clause-failed : goal.returns-clause-failed
returns-clause-failed g c = prompt_failed c.args.path c.file_flow-file.result _ _ c.prompt_over.result c.file_flow-file.ensures.failed
    c.prompt_over.ensures.no_flow c.prompt_over.ensures.failed c.prompt_over.ensures.session
