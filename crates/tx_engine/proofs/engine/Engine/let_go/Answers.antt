use Rattle.std.proofs.Common.{◌≡◌, ◌<◌, ◌+◌, length, arith, refl}
use Rattle.tx_engine.specs.World.{World}
use Rattle.tx_engine.specs.contracts.engine.Engine.{the_view}
use Rattle.tx_engine.proofs.Keeps.{kept_step, slot_there, length_set}
use Rattle.tx_engine.proofs.LetGo.{steps_let_go, can_let_go}
use Rattle.tx_engine.proofs.engine.Engine.let_go.Goals as goal

pub invariant_of-self-2 : goal.invariant_of-self-2
invariant_of-self-2 c =
    let w : World = the_view c.self.inside in
    let can = can_let_go w _ c.self.inside.lists.entries.items c.args.s c.self.view_is refl (c.in_ok-allow_let_go.ensures) in
    let there = can.there in
    let lt : c.args.s < length c.self.inside.slots.items = omega arith in
    let x = slot_there w.flow w.start w.past c.self.inside.slots.items c.args.s _ c.self.invariant.sessions lt c.index_mut.ensures.value in
    let n : c.len-number.result + 1 ≡ length c.self.inside.lists.entries.items + 1 = omega arith in
    rw (c.let_slot_go.ensures, c.in_ok-push.ensures.entries, c.in_ok-push.ensures.queue, c.in_ok-push.ensures.reserved, c.no_change.ensures)
    (kept_step _ _ _ _ _ _ _ _ _ _ _ _ c.self.invariant can.few n (length_set c.self.inside.slots.items c.args.s _)
    (steps_let_go _ _ _ _ _ _ _ c.args.s _ can.held x c.self.invariant))
