use Rattle.std.proofs.Common.{◌≡◌, ◌+◌, ◌<◌, ◌∙◌, arith, length, refl}
use Rattle.std.proofs.lemmas.Option.{slice_get_read}
use Rattle.tx_engine.specs.World.{World}
use Rattle.tx_engine.specs.contracts.engine.Engine.{the_view}
use Rattle.tx_engine.specs.Calls.{unfinished}
use Rattle.tx_slots.specs.Rows.{later_rows}
use Rattle.tx_engine.proofs.Unfinished.{none_unfinished, recovered_held, unfinished_held}
use Rattle.tx_engine.proofs.engine.Engine.recovering.Goals as goal

pub returns-then-not-self : goal.returns-then-not-self
returns-then-not-self c = none_unfinished _ _ _ _ c.self.invariant c.self.view_is c.if-not-self.true

pub overflow_add-result : goal.overflow_add-result
overflow_add-result c =
    let few = rw c.as_slice.ensures at c.open_after.ensures.few in
    let rows = c.self.invariant.start.view.few in
    omega arith

pub returns-in-Free : goal.returns-in-Free
returns-in-Free c =
    let some = c.self.invariant.seats in
    let lt : 0 < length c.self.inside.slots.items = omega arith in
    let at = slice_get_read c.self.inside.slots.items _ 0 c.index.result.now refl lt c.index.ensures in
    absurd (recovered_held _ _ _ _ c.self.invariant c.if-not-self.false at c.in-Free.is)

pub returns-in-Holding : goal.returns-in-Holding
returns-in-Holding c =
    let u : World = the_view c.self.inside in
    let some = c.self.invariant.seats in
    let lt : 0 < length c.self.inside.slots.items = omega arith in
    let at = slice_get_read c.self.inside.slots.items _ 0 c.index.result.now refl lt c.index.ensures in
    let counted = rw c.as_slice.ensures at (c.open_after.ensures.counted u.flow) in
    let held : length (later_rows u.flow u.start.view.rows c.in-Holding.hold.id) + 1 ≡ unfinished c.args.self.now =
    unfinished_held u _ _ _ _ c.in-Holding.hold c.self.invariant c.self.view_is c.if-not-self.false at c.in-Holding.is in
    let more : 1 + c.open_after.result ≡ length (later_rows u.flow u.start.view.rows c.in-Holding.hold.id) + 1 = omega arith in
    more ∙ held
