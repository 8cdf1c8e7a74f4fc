use Rattle.std.proofs.Common.{refl}
use Rattle.run_switch.proofs.Reporting.{message_more}
use Rattle.run_switch.proofs.Rounds.{reports_none}
use Rattle.run_switch.proofs.Stops.{halts_message, halts_none, on_err_of}
use Rattle.run_switch.proofs.stream.answer_messages.Goals as goal

pub loop-frame-init : goal.loop-frame-init
loop-frame-init g c = record { serves = reports_none _ _ _; ready = c.requires.ready }

pub loop-frame-preserved : goal.loop-frame-preserved
loop-frame-preserved g c = record {
  serves = message_more c.args.header c.args.list.now c.loop-frame.frame-index c.frame-item.result c.deref.result.now _ _ _ _ _ _ _ _ _ _
      c.loop-frame-test.true c.frame-item.is c.deref.ensures.value c.in_ok-arrival.ensures.reading c.loop-frame.invariant.serves
      c.in_ok-answer_arrival.ensures.serves;
  ready = c.in_ok-answer_arrival.ensures.ready;
}

pub returns-in_err-arrival-clause-halts : goal.returns-in_err-arrival-clause-halts
returns-in_err-arrival-clause-halts g c =
    on_err_of c.from_residual.result (halts_message c.args.header c.args.list.now c.loop-frame.frame-index c.frame-item.result c.deref.result.now _ _ _ _ _ _
    c.loop-frame-test.true c.frame-item.is c.deref.ensures.value refl c.loop-frame.invariant.serves.serves (halts_none _ _ _))

pub returns-in_err-answer_arrival-clause-halts : goal.returns-in_err-answer_arrival-clause-halts
returns-in_err-answer_arrival-clause-halts g c =
    on_err_of c.from_residual-in_err-answer_arrival.result (halts_message c.args.header c.args.list.now c.loop-frame.frame-index c.frame-item.result
    c.deref.result.now _ _ _ _ _ _ c.loop-frame-test.true c.frame-item.is c.deref.ensures.value c.in_ok-arrival.ensures.reading
    c.loop-frame.invariant.serves.serves c.in_err-answer_arrival.ensures.halts)
