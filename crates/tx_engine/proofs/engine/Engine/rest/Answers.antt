use Rattle.std.proofs.Common.{◌<◌, length, arith, ◌∙◌, subst}
use Rattle.tx_engine.specs.World.{World}
use Rattle.tx_slots.specs.declared.slot.Slot.{Slot}
use Rattle.tx_slots.specs.declared.slot.Slot.TheVariants.{Free, Holding}
use Rattle.tx_engine.specs.contracts.engine.Engine.{the_view}
use Rattle.tx_engine.specs.Kept.{SlotIs}
use Rattle.tx_engine.proofs.Keeps.{slot_there}
use Rattle.tx_engine.proofs.Dues.{free_rest, held_rest}
use Rattle.tx_engine.proofs.engine.Engine.rest.Goals as goal

pub returns-in-Free : goal.returns-in-Free
returns-in-Free c =
    let lt : c.args.s < length c.self.inside.slots.items = omega arith in
    let u : World = the_view c.self.inside in
    let k : SlotIs u.flow u.start u.past c.args.s Free = subst (λ (z : Slot). SlotIs u.flow u.start u.past c.args.s z) c.in-Free.is
    (slot_there u.flow u.start u.past c.self.inside.slots.items c.args.s _ c.self.invariant.sessions lt c.index.ensures) in
    c.new-in-Free.ensures.items ∙ free_rest u _ c.args.s c.self.view_is lt k

pub returns-in-Holding : goal.returns-in-Holding
returns-in-Holding c =
    let lt : c.args.s < length c.self.inside.slots.items = omega arith in
    let u : World = the_view c.self.inside in
    let k : SlotIs u.flow u.start u.past c.args.s (Holding c.in-Holding.hold) = subst (λ (z : Slot). SlotIs u.flow u.start u.past c.args.s z) c.in-Holding.is
    (slot_there u.flow u.start u.past c.self.inside.slots.items c.args.s _ c.self.invariant.sessions lt c.index.ensures) in
    rw (← held_rest u _ c.args.s c.in-Holding.hold c.self.view_is lt k) c.rest.ensures
