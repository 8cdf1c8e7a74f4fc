use Rattle.std.proofs.Common.{◌<◌, length, arith, ◌∙◌, sym, subst}
use Rattle.sw_context.specs.Spelling.{IsSpelled}
use Rattle.tx_engine.specs.World.{World}
use Rattle.tx_slots.specs.declared.slot.Slot.{Slot}
use Rattle.tx_slots.specs.declared.slot.Slot.TheVariants.{Free, Holding}
use Rattle.tx_engine.specs.contracts.engine.Engine.{the_view}
use Rattle.tx_engine.specs.Kept.{SlotIs}
use Rattle.tx_engine.proofs.Keeps.{slot_there}
use Rattle.tx_engine.proofs.Held.{saved_none, saved_some}
use Rattle.tx_engine.proofs.SavedContexts.{saved_spelled}
use Rattle.tx_engine.proofs.engine.Engine.saved.Goals as goal

pub returns-in_default : goal.returns-in_default
returns-in_default c =
    let lt : c.args.s < length c.self.inside.slots.items = omega arith in
    let u : World = the_view c.self.inside in
    let k : SlotIs u.flow u.start u.past c.args.s Free = subst (λ (z : Slot). SlotIs u.flow u.start u.past c.args.s z) c.in_default.is
    (slot_there u.flow u.start u.past c.self.inside.slots.items c.args.s _ c.self.invariant.sessions lt c.index.ensures) in
    saved_none u _ c.args.s c.self.view_is lt k

pub context_of-requires : goal.context_of-requires
context_of-requires c =
    let lt : c.args.s < length c.self.inside.slots.items = omega arith in
    let u : World = the_view c.self.inside in
    let k : SlotIs u.flow u.start u.past c.args.s (Holding c.in-Holding.hold) = subst (λ (z : Slot). SlotIs u.flow u.start u.past c.args.s z) c.in-Holding.is
    (slot_there u.flow u.start u.past c.self.inside.slots.items c.args.s _ c.self.invariant.sessions lt c.index.ensures) in
    subst IsSpelled (sym (c.saved.ensures u.flow)) (saved_spelled u _ _ c.args.s c.in-Holding.hold c.self.invariant k)

pub returns : goal.returns
returns c =
    let lt : c.args.s < length c.self.inside.slots.items = omega arith in
    let u : World = the_view c.self.inside in
    let k : SlotIs u.flow u.start u.past c.args.s (Holding c.in-Holding.hold) = subst (λ (z : Slot). SlotIs u.flow u.start u.past c.args.s z) c.in-Holding.is
    (slot_there u.flow u.start u.past c.self.inside.slots.items c.args.s _ c.self.invariant.sessions lt c.index.ensures) in
    saved_some u _ c.args.s c.in-Holding.hold c.in_ok-context.context c.self.view_is lt k (sym c.in_ok-context.ensures ∙ c.saved.ensures u.flow)
