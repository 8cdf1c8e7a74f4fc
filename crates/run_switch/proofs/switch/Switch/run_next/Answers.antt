use Rattle.run_switch.proofs.Transactions.{stepped, took, transacted}
use Rattle.run_switch.proofs.switch.Switch.run_next.Goals as goal

pub loop-init : goal.loop-init
loop-init g c = took _ _ _ c.in_ok-act.ensures.does c.in_ok-act.ensures.seated

pub returns-in-Idle : goal.returns-in-Idle
returns-in-Idle g c = record {
  transacts = transacted _ _ _ c.in_ok-act-2.field-0 c.requires.rest c.in-Idle.is c.loop.invariant c.in_ok-act-2.ensures.does c.in_ok-act-2.ensures.seated;
  seated = c.in_ok-act-2.ensures.seated;
}

pub loop-preserved : goal.loop-preserved
loop-preserved g c = stepped _ _ _ _ c.loop.invariant c.in_ok-act-2.ensures.does c.in_ok-act-2.ensures.seated
