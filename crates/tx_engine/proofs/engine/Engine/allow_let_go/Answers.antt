use Rattle.std.proofs.Common.{◌≡◌, ◌<◌, length, arith, refl, sym, subst, Option, Some, None, true, false}
use Rattle.std.specs.Prelude.{MatchResult}
use Rattle.tx_engine.specs.declared.error.EngineError.{EngineError}
use Rattle.tx_engine.specs.World.{World}
use Rattle.tx_engine.specs.contracts.engine.Engine.{the_view}
use Rattle.tx_engine.proofs.Keeps.{slot_there, slot_sound}
use Rattle.tx_engine.proofs.LetGo.{let_go_tested}
use Rattle.tx_engine.proofs.engine.Engine.allow_let_go.Goals as goal

pub is_held_by-requires : goal.is_held_by-requires
is_held_by-requires c =
    let lt : c.args.s < length c.self.inside.slots.items = omega arith in
    let w : World = the_view c.self.inside in
    let x = slot_there w.flow w.start w.past c.self.inside.slots.items c.args.s _ c.self.invariant.sessions lt c.index.ensures in
    slot_sound w.flow w.start w.past c.args.s _ x

pub returns-then-not-is_held_by : goal.returns-then-not-is_held_by
returns-then-not-is_held_by c =
    let lt : c.args.s < length c.self.inside.slots.items = omega arith in
    let held = rw c.as_slice.ensures.value at c.is_held_by.ensures in
    let_go_tested (the_view c.self.inside) _ _ _ c.args.s _ false c.self.invariant c.self.view_is refl lt c.index.ensures (grind (arith))

pub returns : goal.returns
returns c =
    let lt : c.args.s < length c.self.inside.slots.items = omega arith in
    let held = rw c.as_slice.ensures.value at c.is_held_by.ensures in
    let is = let_go_tested (the_view c.self.inside) _ _ _ c.args.s _ true c.self.invariant c.self.view_is refl lt c.index.ensures (grind (arith)) in
    subst (λ (o : Option EngineError). MatchResult c.allow_entry.result (λ _. o ≡ None) (λ e. o ≡ Some e)) (sym is) c.allow_entry.ensures
