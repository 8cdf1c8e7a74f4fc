use Rattle.tx_machine.proofs.RestPlaces.{groups_visited, step_on}
use Rattle.tx_machine.proofs.places.add_groups.Goals as goal

pub loop-group-preserved : goal.loop-group-preserved
loop-group-preserved c = step_on c.loop-group.places.items c.add_group.new.places.items _ _ _ _ c.in_ok-add_group.ensures
    (groups_visited c.args.code.now c.args.groups.now c.loop-group.group-index 0 c.loop-group-test.true) c.loop-group.invariant
