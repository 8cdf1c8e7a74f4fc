use Rattle.std.proofs.Common.{◌<◌, length, ◌∙◌}
use Rattle.tx_engine.specs.World.{World}
use Rattle.tx_engine.specs.contracts.engine.Engine.{the_view}
use Rattle.tx_engine.proofs.Keeps.{slot_there, slot_sound}
use Rattle.tx_engine.proofs.Dues.{next_slot}
use Rattle.tx_engine.proofs.engine.Engine.next_of.Goals as goal

pub next_at-requires : goal.next_at-requires
next_at-requires c =
    let lt : c.args.s < length c.self.inside.slots.items = rw (← c.self.view_is) at c.requires in
    let w : World = the_view c.self.inside in
    let x = slot_there w.flow w.start w.past c.self.inside.slots.items c.args.s _ c.self.invariant.sessions lt c.index.ensures in
    slot_sound w.flow w.start w.past c.args.s _ x

pub returns : goal.returns
returns c =
    let lt : c.args.s < length c.self.inside.slots.items = rw (← c.self.view_is) at c.requires in
    let w : World = the_view c.self.inside in
    let x = slot_there w.flow w.start w.past c.self.inside.slots.items c.args.s _ c.self.invariant.sessions lt c.index.ensures in
    let n = rw c.as_slice.ensures.value at c.next_at.ensures in
    rw (← c.self.view_is) (n ∙ next_slot w _ _ c.args.s _ c.self.invariant.stops.1 c.self.invariant.renewed x)
