use Rattle.run_switch.specs.Points.{point_of}
use Rattle.run_switch.proofs.Counting.{counted_rest, sent_one}
use Rattle.run_switch.proofs.Resting.{acked_emptied, acked_rest}
use Rattle.run_switch.proofs.advices.send_advice.Goals as goal

pub returns-clause-rests : goal.returns-clause-rests
returns-clause-rests g c = record {
  rest = counted_rest (point_of g.S.Store c.act.new.self) c.deliver.new.self c.deliver.ensures
      (acked_rest _ _ _ _ _ c.requires.rest c.in_ok-act.ensures.does c.in_ok-act.ensures.seated);
  emptied = λ e. acked_emptied _ _ _ _ _ e c.in_ok-act.ensures.does;
}

pub returns-clause-sends : goal.returns-clause-sends
returns-clause-sends g c = sent_one _ _ _ _ _ (point_of g.S.Store c.act.new.self) _ c.deliver.new.self
    (rw c.if-not-accepted.false at c.in_ok-accepted.ensures.sent) c.in_ok-accepted.ensures.noted c.in_ok-act.ensures.does c.deliver.ensures
