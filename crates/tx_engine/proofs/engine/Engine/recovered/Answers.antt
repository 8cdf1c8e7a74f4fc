use Rattle.std.proofs.Common.{◌≡◌, ◌<◌, ◌+◌, length, arith, rules}
use Rattle.tx_engine.specs.World.{World}
use Rattle.tx_slots.specs.declared.next.ReplyKind.TheVariants as kind
use Rattle.tx_engine.specs.contracts.engine.Engine.{the_view}
use Rattle.tx_engine.proofs.Keeps.{kept_step, length_set, slot_there}
use Rattle.tx_engine.proofs.Dues.{allows_of, has_room}
use Rattle.tx_engine.proofs.Restores.{steps_recovered, room_of}
use Rattle.tx_engine.proofs.engine.Engine.recovered.Goals as goal

pub index_mut-requires : goal.index_mut-requires
index_mut-requires c =
    let a = allows_of (the_view c.self.inside) _ c.args.s _ _ c.self.view_is c.in_ok-_hold.ensures in
    let lt : c.args.s < length c.self.inside.slots.items = a.session in
    search rules

pub invariant_of-self-2 : goal.invariant_of-self-2
invariant_of-self-2 c =
    let u : World = the_view c.self.inside in
    let a = allows_of u _ c.args.s _ _ c.self.view_is c.in_ok-_hold.ensures in
    let few : length c.self.inside.lists.entries.items < 1048576 = room_of u.flow u.sessions u.start c.self.inside.lists.entries.items u.mark u.reserved
    (has_room kind.Recovered u c.args.s a.allowed) in
    let n : c.len-number.result + 1 ≡ length c.self.inside.lists.entries.items + 1 = omega arith in
    let here = slot_there u.flow u.start u.past c.self.inside.slots.items c.args.s _ c.self.invariant.sessions a.session c.index_mut.ensures.value in
    rw (
      c.touch.ensures,
      c.in_ok-push.ensures.entries,
      c.in_ok-push.ensures.queue,
      c.in_ok-push.ensures.reserved,
      c.in_ok-spelled.ensures.bytes,
      c.no_change.ensures,
    )
    (kept_step _ _ _ _ _ _ _ _ _ _ _ _ c.self.invariant few n (length_set c.self.inside.slots.items c.args.s _)
    (steps_recovered _ _ _ _ _ _ _ c.args.s _ c.in_ok-_hold._hold.now c.index_mut.result.now _ c.self.invariant a c.spelled.ensures.spelled here n))
