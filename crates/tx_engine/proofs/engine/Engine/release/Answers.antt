use Rattle.std.proofs.Common.{◌≡◌, ◌<◌, ◌+◌, length, arith, refl}
use Rattle.tx_engine.specs.contracts.engine.Engine.{the_view}
use Rattle.tx_engine.proofs.Keeps.{kept_step}
use Rattle.tx_engine.proofs.Offers.{steps_released, entry_room}
use Rattle.tx_engine.proofs.engine.Engine.release.Goals as goal

pub invariant_of-self-2 : goal.invariant_of-self-2
invariant_of-self-2 c =
    let few : length c.self.inside.lists.entries.items < 1048576 = entry_room (the_view c.self.inside) _ _ c.self.view_is refl c.in_ok-allow_entry.ensures in
    let n : c.len-number.result + 1 ≡ length c.self.inside.lists.entries.items + 1 = omega arith in
    rw (
      c.in_ok-release.ensures.entries,
      c.in_ok-release.ensures.queue,
      c.in_ok-release.ensures.shelf,
      c.in_ok-release.ensures.reserved,
      c.emptied_shelf.ensures,
    )
    (kept_step _ _ _ _ _ _ _ _ _ _ _ _ c.self.invariant few n refl (steps_released _ _ _ _ _ _ _ c.self.invariant))
