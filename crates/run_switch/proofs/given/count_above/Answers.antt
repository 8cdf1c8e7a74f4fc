use Rattle.run_switch.proofs.Counting.{tallied_next}
use Rattle.run_switch.proofs.given.count_above.Goals as goal

pub loop-context-preserved : goal.loop-context-preserved
loop-context-preserved c = tallied_next c.args.counts.now _ _ c.loop-context.yielded _ c.loop-context.invariant c.in_ok-count.ensures.ok
