use Rattle.std.proofs.Common.{◌≤◌, arith, length}
use Rattle.run_switch.proofs.PassingOver.{halts_more, passes_all, passes_more, passes_none}
use Rattle.run_switch.proofs.Stops.{on_err_of}
use Rattle.run_switch.proofs.passing.pass_over.Goals as goal

pub loop-message-init : goal.loop-message-init
loop-message-init g c = record { passes = passes_none _ _ }

pub loop-message-preserved : goal.loop-message-preserved
loop-message-preserved g c = record {
  passes = passes_more c.args.list.now c.loop-message.message-index c.message-item.result _ _ _ _ _ _ c.loop-message-test.true c.message-item.is
      c.loop-message.invariant.passes c.in_ok-pass_one.ensures.passes;
}

pub returns-in_err-pass_one-clause-halts : goal.returns-in_err-pass_one-clause-halts
returns-in_err-pass_one-clause-halts g c =
    on_err_of c.from_residual.result (λ p. halts_more c.args.list.now c.loop-message.message-index c.message-item.result p _ _ _ _ _ c.loop-message-test.true
    c.message-item.is c.loop-message.invariant.passes (c.in_err-pass_one.ensures.halts p))

pub returns-clause-passes : goal.returns-clause-passes
returns-clause-passes g c =
    let le : length c.args.list.now ≤ c.loop-message.message-index = omega (arith, c.loop-message-test.false) in
    passes_all c.args.list.now c.loop-message.message-index _ _ _ _ le c.loop-message.invariant.passes
