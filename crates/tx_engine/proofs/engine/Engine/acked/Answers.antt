use Rattle.std.proofs.Common.{◌≡◌, ◌+◌, length, arith, refl}
use Rattle.tx_engine.specs.contracts.engine.Engine.{the_view}
use Rattle.tx_engine.proofs.Keeps.{kept_step}
use Rattle.tx_engine.proofs.Acks.{steps_acked, can_ack}
use Rattle.tx_engine.proofs.engine.Engine.acked.Goals as goal

pub invariant_of-self-2 : goal.invariant_of-self-2
invariant_of-self-2 c =
    let can = can_ack (the_view c.self.inside) _ c.self.inside.lists.entries.items (c.args.id, c.args.place) c.self.view_is refl (c.in_ok-allow_ack.ensures) in
    let n : c.len-number.result + 1 ≡ length c.self.inside.lists.entries.items + 1 = omega arith in
    rw (c.remove_advice.ensures, c.in_ok-push.ensures.entries, c.in_ok-push.ensures.queue, c.in_ok-push.ensures.reserved, c.no_advice_at.ensures)
    (kept_step _ _ _ _ _ _ _ _ _ _ _ _ c.self.invariant can.few n refl (steps_acked _ _ _ _ _ _ _ c.args.id c.args.place can.here c.self.invariant))
