use Rattle.std.proofs.Common.{◌∙◌, ◌++◌, ap, refl, map}
use Rattle.tx_machine.specs.Due.{places_of}
use Rattle.tx_machine.specs.Position.{entries_in, stack_upcoming}
use Rattle.tx_machine.specs.Table.{Prepare}
use Rattle.tx_machine.proofs.RestPlaces.{frames_visited, step_on}
use Rattle.tx_machine.proofs.places.add_frames.Goals as goal

pub loop-top-preserved : goal.loop-top-preserved
loop-top-preserved c =
    step_on c.add_groups.new.places.items c.add_steps.new.places.items _ _ _ _ c.in_ok-add_steps.ensures refl
    (step_on c.loop-top.places.items c.add_groups.new.places.items _ _ _ _
    (c.in_ok-add_groups.ensures ∙ ap (λ gs. c.loop-top.places.items ++ places_of (map Prepare (entries_in c.args.code.now gs)))
    c.as_slice.ensures.value) (ap (λ fs. places_of (stack_upcoming c.args.code.now fs)) c.in-Some.ensures.cases.0 ∙ frames_visited c.args.code.now
    c.in-Some.below.now c.in-Some.top.now) c.loop-top.invariant)
