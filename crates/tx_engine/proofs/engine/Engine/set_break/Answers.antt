use Rattle.std.proofs.Common.{◌≡◌, ◌<◌, ◌+◌, length, arith, refl}
use Rattle.tx_engine.specs.contracts.engine.Engine.{the_view}
use Rattle.tx_engine.proofs.Keeps.{kept_step}
use Rattle.tx_engine.proofs.Breaks.{steps_broke, break_room, break_there}
use Rattle.tx_engine.proofs.engine.Engine.set_break.Goals as goal

pub invariant_of-self-2 : goal.invariant_of-self-2
invariant_of-self-2 c =
    let may = c.in_ok-participant.ensures in
    let few : length c.self.inside.lists.entries.items < 1048576 = break_room (the_view c.self.inside) _ _ _ _ c.self.view_is refl may in
    let n : c.len-number.result + 1 ≡ length c.self.inside.lists.entries.items + 1 = omega arith in
    let there = break_there (the_view c.self.inside) _ _ _ c.self.view_is may in
    rw (c.in_ok-push.ensures.entries, c.in_ok-push.ensures.queue, c.in_ok-push.ensures.reserved, c.no_change.ensures)
    (kept_step _ _ _ _ _ _ _ _ _ _ _ _ c.self.invariant few n refl (steps_broke _ _ _ _ _ _ _ c.in_ok-participant.participant there c.self.invariant))
