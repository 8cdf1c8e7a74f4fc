use Rattle.std.proofs.Common.{◌∙◌, map, take, refl}
use Rattle.run_switch.specs.Stored.{plain}
use Rattle.run_switch.proofs.Sendings.{plain_next, sends_more, sends_whole}
use Rattle.run_switch.proofs.advices.send_each.Goals as goal

pub loop-stored-preserved : goal.loop-stored-preserved
loop-stored-preserved g c =
    let next = plain_next c.args.list.now c.loop-stored.stored-index c.stored-item.result c.loop-stored-test.true c.stored-item.is in
    record {
      sends = rw next (sends_more _ (map plain (take c.loop-stored.stored-index c.args.list.now)) (plain c.stored-item.result) _ _ _ _ _ _
          c.loop-stored.invariant.sends c.in_ok-send_advice.ensures.sends);
      rests = record {
        rest = c.in_ok-send_advice.ensures.rests.rest;
        emptied = λ e. c.in_ok-send_advice.ensures.rests.emptied (c.loop-stored.invariant.rests.emptied e);
      };
      queue = c.in_ok-send_advice.ensures.queue ∙ c.loop-stored.invariant.queue;
    }

pub returns-clause-sends : goal.returns-clause-sends
returns-clause-sends g c =
    sends_whole _ c.args.list.now c.loop-stored.stored-index _ _ _ _ _ c.loop-stored-test.false refl c.loop-stored.invariant.sends
