use Rattle.std.proofs.Common.{arith}
use Rattle.cli_step.proofs.Turning.{ahead, goes_on, last_driven, none_driven, world_after}
use Rattle.cli_step.proofs.turns.drive_one.Goals as goal
use Rattle.tx_plant.specs.Wholes.{engine_of, whole_at}

pub unreachable-requires : goal.unreachable-requires
unreachable-requires g c =
    let plant = c.args.plant.now in
    let new = c.drive.new.self in
    let p = whole_at g.S.Store plant in
    let q = whole_at g.S.Store new in
    let done = rw c.as_slice.ensures at c.in-Ok.ensures.done in
    none_driven c.args.turn c.in-Ok.outcomes.items done.0 p q done.1 (omega (arith, c.in-Ok.outcomes.ok, c.in-None.ensures.cases.0))

pub returns-in-Some-clause-does : goal.returns-in-Some-clause-does
returns-in-Some-clause-does g c =
    let plant = c.args.plant.now in
    let new = c.drive.new.self in
    let p = whole_at g.S.Store plant in
    let q = whole_at g.S.Store new in
    let done = rw c.as_slice.ensures at c.in-Ok.ensures.done in
    let turned = last_driven c.args.turn c.in-Ok.outcomes.items c.pop.new.self.items c.in-Some.outcome done.0 p q done.1 c.in-Some.ensures.items in
    (done.0, turned, c.in-Ok.ensures.stations.names, done.3)

pub returns-in-Some-clause-follows : goal.returns-in-Some-clause-follows
returns-in-Some-clause-follows g c = λ old.
    let plant = c.args.plant.now in
    let new = c.drive.new.self in
    let p = whole_at g.S.Store plant in
    let q = whole_at g.S.Store new in
    let does = returns-in-Some-clause-does g c in
    goes_on c.tracers_go_on.ensures.entry c.args.tracer.now c.in-Some.outcome (engine_of plant) (engine_of new)
    (world_after c.args.turn c.in-Some.outcome does.0 p q does.1) old c.requires

pub returns-in-Some-clause-ahead : goal.returns-in-Some-clause-ahead
returns-in-Some-clause-ahead g c =
    let plant = c.args.plant.now in
    let new = c.drive.new.self in
    let p = whole_at g.S.Store plant in
    let q = whole_at g.S.Store new in
    let does = returns-in-Some-clause-does g c in
    ahead c.args.tracer.now c.in-Some.outcome (engine_of plant) (engine_of new)
    (world_after c.args.turn c.in-Some.outcome does.0 p q does.1) c.requires
