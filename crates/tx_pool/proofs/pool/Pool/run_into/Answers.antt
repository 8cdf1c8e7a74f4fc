use Rattle.std.proofs.Common.{◌∙◌, ◌&&◌, not, nat_le, refl, sym, arith}
use Rattle.sw_participant.specs.Calls.{PerformsCall}
use Rattle.tx_engine.specs.Cuts.{is_broken, is_in_use}
use Rattle.tx_pool.proofs.Handed.{drove_whole, early_is, early_memory, same_length, same_plant}
use Rattle.tx_pool.proofs.pool.Pool.run_into.Goals as goal
use Rattle.tx_plant.specs.Wholes.{engine_of}

pub returns-in-Err-clause-refused : goal.returns-in-Err-clause-refused
returns-in-Err-clause-refused g c = (
  refl,
  early_is (is_broken (engine_of c.args.plant)) (is_in_use (engine_of c.args.plant))
      (not (nat_le 1 c.args.capacity && nat_le c.args.capacity 4096)) c.in-Err.cause (rw c.engine.ensures at c.in-Err.ensures),
)

pub returns-in-Err-make_needs-clause-refused : goal.returns-in-Err-make_needs-clause-refused
returns-in-Err-make_needs-clause-refused g c = (
  same_plant c.from_parts-plant.result c.args.plant (c.from_parts-plant.ensures ∙ c.into_parts-running.ensures),
  early_memory c.in-Err-make_needs.cause _ c.in-Err-make_needs.ensures.refused (rw c.engine.ensures at c.in_default.ensures),
)

pub plant_of-requires-clause-room : goal.plant_of-requires-clause-room
plant_of-requires-clause-room g c =
    let left = same_length (λ s. s.name) (λ s. s.name) c.in-Ok-run_parts.ran.stations.items c.take_apart.result.items c.in-Ok-run_parts.ensures.names in
    let taken = same_length (λ s. s.name) (λ s. s.name) c.take_apart.result.items c.into_parts-running.result.stations.items c.take_apart.ensures.names in
    omega (arith, left, taken, c.len.ensures, c.in-Ok.ensures.stations.1)

pub late-late-requires-clause-room : goal.late-late-requires-clause-room
late-late-requires-clause-room g c =
    let taken = same_length (λ s. s.name) (λ s. s.name) c.take_apart.result.items c.into_parts-running.result.stations.items c.take_apart.ensures.names in
    omega (arith, c.in-Err-run_parts.ensures.lost, taken, c.len.ensures, c.in-Ok.ensures.stations.1)

pub returns-in-Ok-run_parts-clause-drove : goal.returns-in-Ok-run_parts-clause-drove
returns-in-Ok-run_parts-clause-drove g c =
    let made = c.plant_of.ensures in
    let whole = drove_whole (λ s. s.participant) (λ s. s.participant)
    (λ b. PerformsCall (goal.Participant-dyn g (b.vtable, b.value)))
    (λ b. (goal.Participant-dyn g (b.vtable, b.value)).object b.value)
    (λ s. s.calls) (λ s. s.calls)
    c.take_apart.result.items c.in-Ok-run_parts.ran.stations.items c.into_parts-running.result.stations.items c.plant_of.result.0.stations.items
    _ _ c.take_apart.ensures.participants c.take_apart.ensures.calls made.participants made.calls c.in-Ok-run_parts.ensures.drove in
    rw c.into_parts-running.ensures at (rw (sym made.running) at (rw (sym made.journal) at whole))

pub returns-in-Ok-run_parts-clause-allowed : goal.returns-in-Ok-run_parts-clause-allowed
returns-in-Ok-run_parts-clause-allowed g c = rw c.engine.ensures at c.in_default.ensures

pub returns-in-Err-run_parts-clause-refused : goal.returns-in-Err-run_parts-clause-refused
returns-in-Err-run_parts-clause-refused g c = rw c.engine.ensures at c.in_default.ensures
