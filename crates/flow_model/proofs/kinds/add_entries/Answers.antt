use Rattle.flow_model.proofs.FirstKinds.{one_more_entry}
use Rattle.flow_model.proofs.kinds.add_entries.Goals as goal

pub loop-entry-preserved : goal.loop-entry-preserved
loop-entry-preserved c = λ q. one_more_entry q c.args.entries.now c.loop-entry.entry-index c.entry-item.result _ _ _ c.loop-entry-test.true c.entry-item.is
    (c.in_ok-add_first.ensures q) (c.loop-entry.invariant q)
