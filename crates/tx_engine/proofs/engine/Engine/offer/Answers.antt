use Rattle.tx_engine.proofs.Keeps.{kept_reserved}
use Rattle.tx_engine.proofs.engine.Engine.offer.Goals as goal

pub invariant_of-self-2 : goal.invariant_of-self-2
invariant_of-self-2 c =
    rw (c.in_ok-reserve_offer.ensures.entries, c.in_ok-reserve_offer.ensures.queue, c.in_ok-reserve_offer.ensures.reserved)
    (kept_reserved _ _ _ _ _ _ _ _ c.self.invariant)
