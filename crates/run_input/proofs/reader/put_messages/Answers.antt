use Rattle.run_input.proofs.Comings.{came_so, so_next}
use Rattle.run_input.proofs.reader.put_messages.Goals as goal

pub returns-in_err-arrival-clause-some : goal.returns-in_err-arrival-clause-some
returns-in_err-arrival-clause-some g c = λ left s so. (_, c.loop-frame.invariant.so left s so)

pub returns-clause-some : goal.returns-clause-some
returns-clause-some g c = λ left s so. (_, c.loop-frame.invariant.so left s so)

pub put-requires-clause-may : goal.put-requires-clause-may
put-requires-clause-may g c =
    let before = c.requires.so in
    came_so g.B.Input.header g.B.Input.input before.0 before.1 _ _ (so_next g.B.Input.header g.B.Input.input before.0 before.1 _ c.args.list.now c.loop-frame.frame-index
    c.frame-item.result c.deref.result.now c.in_ok-arrival.arrival c.loop-frame-test.true c.frame-item.is c.deref.ensures.value
    (c.loop-frame.invariant.so before.0 before.1 before.2) (rw c.requires.header at c.in_ok-arrival.ensures))

pub loop-frame-preserved : goal.loop-frame-preserved
loop-frame-preserved g c = record {
  own = c.put.ensures.own;
  so = λ left s so. rw c.put.ensures.put (so_next g.B.Input.header g.B.Input.input left s _ c.args.list.now c.loop-frame.frame-index
      c.frame-item.result c.deref.result.now c.in_ok-arrival.arrival c.loop-frame-test.true c.frame-item.is c.deref.ensures.value
      (c.loop-frame.invariant.so left s so) (rw c.requires.header at c.in_ok-arrival.ensures));
}
