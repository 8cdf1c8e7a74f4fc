use Rattle.std.proofs.Common.{◌∙◌, ap}
use Rattle.tx_plant.specs.Core.{core}
use Rattle.tx_plant.specs.Wholes.{core_in, engine_in}
use Rattle.tx_locked.proofs.Growth.{offer_allowed, offered_in, since_offer}
use Rattle.tx_locked.proofs.locked.Locked.admit.Goals as goal

pub invariant_of-self-in-Some : goal.invariant_of-self-in-Some
invariant_of-self-in-Some g c =
    let i = c.self.inside in
    let j = c.offer_reserved.new.self in
    let p = core_in i.running in
    let q = core_in j in
    let recorded = offered_in (engine_in i.running) c.reserve_offer.new.self.engine j.engine c.in-Some.offer c.offer_reserved.result
    c.in_default.ensures.reserved c.offer_reserved.ensures.offered in (
      since_offer g.K.Run.start p q i.getter.passed c.get.new.getter.passed i.book.total i.made.items c.in-Some.offer c.offer_reserved.result
          c.self.invariant.0 (
            offer_allowed (engine_in i.running) c.in_default.ensures.allowed,
            recorded,
            ap (core j.engine) (c.offer_reserved.ensures.seats ∙ c.in_default.ensures.seats),
          ) c.engine_is_sound.ensures.engine c.in-Some.ensures.got,
      c.in-Some.ensures.own ∙ c.self.invariant.1,
    )
