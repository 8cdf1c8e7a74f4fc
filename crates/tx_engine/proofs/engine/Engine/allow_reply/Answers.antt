use Rattle.std.proofs.Common.{◌≡◌, ◌<◌, length, arith, refl, ◌∙◌, subst, true}
use Rattle.tx_engine.specs.World.{World}
use Rattle.tx_slots.specs.declared.slot.Slot.{Slot}
use Rattle.tx_slots.specs.declared.slot.Slot.TheVariants.{Free, Holding}
use Rattle.tx_slots.specs.DueCalls.{asked}
use Rattle.tx_slots.specs.Slots.{slot_next}
use Rattle.tx_engine.specs.Kept.{SlotIs}
use Rattle.tx_engine.specs.contracts.engine.Engine.{the_view}
use Rattle.tx_engine.proofs.Keeps.{slot_there}
use Rattle.tx_engine.proofs.Dues.{next_slot, allows_at, reply_refused}
use Rattle.tx_engine.proofs.engine.Engine.allow_reply.Goals as goal

pub returns-in_default : goal.returns-in_default
returns-in_default c =
    let lt : c.args.s < length c.self.inside.slots.items = omega arith in
    let u : World = the_view c.self.inside in
    let x : SlotIs u.flow u.start u.past c.args.s Free = subst (λ (z : Slot). SlotIs u.flow u.start u.past c.args.s z) c.in_default.is
    (slot_there u.flow u.start u.past c.self.inside.slots.items c.args.s _ c.self.invariant.sessions lt c.index.ensures) in
    let q = next_slot u c.self.inside.breaks.items c.self.inside.restored c.args.s Free c.self.invariant.stops.1 c.self.invariant.renewed x in
    reply_refused u _ c.args.kind c.args.s _ c.self.view_is lt q

pub next_of-requires : goal.next_of-requires
next_of-requires c =
    let lt : c.args.s < length c.self.inside.slots.items = omega arith in
    rw (← c.self.view_is) lt

pub returns-then-not-is_asked : goal.returns-then-not-is_asked
returns-then-not-is_asked c =
    let lt : c.args.s < length c.self.inside.slots.items = omega arith in
    let u : World = the_view c.self.inside in
    let q = rw (← c.self.view_is) at c.next_of.ensures in
    reply_refused u _ c.args.kind c.args.s _ c.self.view_is lt q ∙ (rw (← c.is_asked.ensures, c.if-not-is_asked.true) refl)

pub returns-then-is_full : goal.returns-then-is_full
returns-then-is_full c =
    let lt : c.args.s < length c.self.inside.slots.items = omega arith in
    let u : World = the_view c.self.inside in
    let q = rw (← c.self.view_is) at c.next_of.ensures in
    reply_refused u _ c.args.kind c.args.s _ c.self.view_is lt q
    ∙ (rw (← c.is_asked.ensures, c.if-not-is_asked.false, ← c.is_full.ensures, c.if-is_full.true) refl)

pub returns : goal.returns
returns c =
    let lt : c.args.s < length c.self.inside.slots.items = omega arith in
    let u : World = the_view c.self.inside in
    let q = rw (← c.self.view_is) at c.next_of.ensures in
    let none = reply_refused u _ c.args.kind c.args.s _ c.self.view_is lt q
    ∙ (rw (← c.is_asked.ensures, c.if-not-is_asked.false, ← c.is_full.ensures, c.if-is_full.false) refl) in
    let here : SlotIs u.flow u.start u.past c.args.s (Holding c.in-Holding.hold) = subst
    (λ (z : Slot). SlotIs u.flow u.start u.past c.args.s z) c.in-Holding.is
    (slot_there u.flow u.start u.past c.self.inside.slots.items c.args.s _ c.self.invariant.sessions lt c.index.ensures) in
    let q' = next_slot u c.self.inside.breaks.items c.self.inside.restored c.args.s (Holding c.in-Holding.hold) c.self.invariant.stops.1
    c.self.invariant.renewed here in
    let yes : asked c.args.kind (slot_next u.flow u.start.view.next_id c.self.inside.restored c.self.inside.breaks.items u.mark (Holding c.in-Holding.hold))
    ≡ true = rw (q', ← q, ← c.is_asked.ensures) c.if-not-is_asked.false in
    allows_at u _ c.args.s c.args.kind c.in-Holding.hold c.self.inside.restored c.self.inside.breaks.items c.self.view_is none lt here
    c.self.invariant.renewed yes
