use Rattle.std.proofs.Common.{arith}
use Rattle.flow_asm.proofs.CallSearch.{start_first}
use Rattle.flow_asm.proofs.places.last_before.Goals as goal

pub loop-group-preserved : goal.loop-group-preserved
loop-group-preserved c =
    let start = start_first c.args.code.now c.loop-group.group c.groups-start-items.result.now c.start-item.result _ c.groups-start-items.ensures
    c.loop-group-test.true c.start-item.is in
    record { first = start.1; within = omega (arith, start.0); before = c.if-start-step.false }
