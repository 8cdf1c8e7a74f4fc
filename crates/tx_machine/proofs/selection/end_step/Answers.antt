use Rattle.std.proofs.Common.{◌≡◌, ◌-◌, length, ap, ◌∙◌, arith}
use Rattle.flow_asm.specs.Steps.{layout, stages}
use Rattle.flow_asm.proofs.StepOrder.{last_return}
use Rattle.flow_asm.proofs.Stages.{length-steps}
use Rattle.tx_machine.proofs.StepsAhead.{is_return}
use Rattle.tx_machine.proofs.selection.end_step.Goals as goal

pub returns-clause-last : goal.returns-clause-last
returns-clause-last c =
    let long : length c.steps.result.now ≡ length (stages c.args.code.now) = ap length c.steps.ensures ∙ length-steps c.args.code.now in
    is_return c.args.code.now (length c.steps.result.now - 1) (last_return (layout c.args.code.now) (length c.steps.result.now - 1)
    (omega (arith, c.main_step-first.ensures.within)) (omega arith))
