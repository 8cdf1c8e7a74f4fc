use Rattle.std.proofs.Common.{◌<◌, length, arith, ◌∙◌}
use Rattle.tx_engine.specs.World.{World}
use Rattle.tx_engine.specs.contracts.engine.Engine.{the_view}
use Rattle.tx_engine.proofs.Keeps.{slot_there, slot_sound}
use Rattle.tx_engine.proofs.Held.{at_slot_is, at_there}
use Rattle.tx_engine.proofs.engine.Engine.at.Goals as goal

pub at_slot-requires : goal.at_slot-requires
at_slot-requires c =
    let lt : c.args.s < length c.self.inside.slots.items = omega arith in
    let u : World = the_view c.self.inside in
    slot_sound u.flow u.start u.past c.args.s _ (slot_there u.flow u.start u.past c.self.inside.slots.items c.args.s _ c.self.invariant.sessions lt
    c.index.ensures)

pub returns : goal.returns
returns c =
    let lt : c.args.s < length c.self.inside.slots.items = omega arith in
    let u : World = the_view c.self.inside in
    let x = slot_there u.flow u.start u.past c.self.inside.slots.items c.args.s _ c.self.invariant.sessions lt c.index.ensures in
    at_there u _ c.args.s _ c.self.view_is lt (c.at_slot.ensures ∙ at_slot_is u _ c.args.s _ c.self.invariant.renewed x)
