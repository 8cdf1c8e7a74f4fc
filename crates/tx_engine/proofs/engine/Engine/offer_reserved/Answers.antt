use Rattle.std.proofs.Common.{◌≡◌, ◌<◌, ◌+◌, length, arith, refl}
use Rattle.tx_engine.specs.contracts.engine.Engine.{the_view}
use Rattle.tx_engine.proofs.Keeps.{kept_step, kept_reserved}
use Rattle.tx_engine.proofs.Offers.{spare_entry, steps_offered}
use Rattle.tx_engine.proofs.engine.Engine.offer_reserved.Goals as goal

pub invariant_of-self : goal.invariant_of-self
invariant_of-self c =
    let few : length c.self.inside.lists.entries.items < 1048576 = spare_entry (the_view c.self.inside) _ _ c.self.view_is refl c.requires in
    let n : c.len-number.result + 1 ≡ length c.self.inside.lists.entries.items + 1 = omega arith in
    let k = kept_reserved _ _ _ _ _ _ c.push_offer.new.self.reserved _ c.self.invariant in
    rw (
      c.push_offer.ensures.entries,
      c.push_offer.ensures.queue,
      c.into_parts-event.ensures.event,
      c.into_parts-event.ensures.waiting,
      c.retries.ensures.retries,
      c.no_change.ensures,
    )
    (kept_step _ _ _ _ _ _ _ _ _ _ _ _ k few n refl (steps_offered _ _ _ _ _ _ _ _ c.into_parts-event.ensures.spelled k))
