use Rattle.std.proofs.Common.{◌∙◌, ap}
use Rattle.flow_model.specs.Kinds.{kind_at}
use Rattle.flow_model.specs.Check.{kind_in}
use Rattle.sw_base.specs.Refusals.{or_else}
use Rattle.flow_model.proofs.FirstKinds.{one_more_group}
use Rattle.flow_model.proofs.kinds.add_groups.Goals as goal

pub loop-group-preserved : goal.loop-group-preserved
loop-group-preserved c = λ q. one_more_group q c.args.groups.now c.loop-group.group-index c.group-item.result _ _ _ c.loop-group-test.true c.group-item.is
    (c.in_ok-add_entries.ensures q ∙ ap (λ es. or_else (kind_at c.loop-group.kinds q) (kind_in q es)) c.as_slice.ensures) (c.loop-group.invariant q)
