use Rattle.std.proofs.Common.{◌≡◌, ◌<◌, length, arith, ◌∙◌, refl, true, false}
use Rattle.std.specs.Prelude.{◌==◌}
use Rattle.std.proofs.lemmas.Bool.Decides.{nat_tests}
use Rattle.std.specs.VecDeque.{deque_len}
use Rattle.std.proofs.lemmas.Option.{slice_get_read}
use Rattle.tx_engine.specs.contracts.engine.Engine.{the_view}
use Rattle.tx_engine.proofs.Takes.{take_refused, queue_first, empty_queue, there_queue}
use Rattle.tx_engine.proofs.engine.Engine.allow_take.Goals as goal

pub returns-then-is_holding : goal.returns-then-is_holding
returns-then-is_holding c =
    let lt : c.args.s < length c.self.inside.slots.items = omega arith in
    take_refused (the_view c.self.inside) _ _ _ c.args.s _ c.self.invariant c.self.view_is refl refl lt c.index.ensures
    ∙ (rw (c.if-self.false, ← c.is_holding.ensures, c.if-is_holding.true) refl)

pub returns-in_default : goal.returns-in_default
returns-in_default c =
    let lt : c.args.s < length c.self.inside.slots.items = omega arith in
    let d : deque_len c.self.inside.lists.queue ≡ length c.self.inside.lists.queue.items = omega arith in
    let empty = empty_queue c.front.result _ _ c.in_default.is d c.front.ensures.variant.1 in
    take_refused (the_view c.self.inside) _ _ _ c.args.s _ c.self.invariant c.self.view_is refl refl lt c.index.ensures
    ∙ (rw (c.if-self.false, ← c.is_holding.ensures, c.if-is_holding.false, empty) refl)

pub returns-then-self-eq-LAST_ID : goal.returns-then-self-eq-LAST_ID
returns-then-self-eq-LAST_ID c =
    let lt : c.args.s < length c.self.inside.slots.items = omega arith in
    let d : deque_len c.self.inside.lists.queue ≡ length c.self.inside.lists.queue.items = omega arith in
    let some = there_queue c.front.result _ _ _ c.in-Some.is d c.front.ensures.variant.0 in
    let spent : (c.self.inside.next_id == 9223372036854775807) ≡ true = grind (arith, nat_tests) in
    take_refused (the_view c.self.inside) _ _ _ c.args.s _ c.self.invariant c.self.view_is refl refl lt c.index.ensures
    ∙ (rw (c.if-self.false, ← c.is_holding.ensures, c.if-is_holding.false, some, spent) refl)

pub returns-then-is_full : goal.returns-then-is_full
returns-then-is_full c =
    let lt : c.args.s < length c.self.inside.slots.items = omega arith in
    let d : deque_len c.self.inside.lists.queue ≡ length c.self.inside.lists.queue.items = omega arith in
    let some = there_queue c.front.result _ _ _ c.in-Some.is d c.front.ensures.variant.0 in
    let more : (c.self.inside.next_id == 9223372036854775807) ≡ false = grind (arith, nat_tests) in
    take_refused (the_view c.self.inside) _ _ _ c.args.s _ c.self.invariant c.self.view_is refl refl lt c.index.ensures
    ∙ (rw (c.if-self.false, ← c.is_holding.ensures, c.if-is_holding.false, some, more, ← c.is_full.ensures, c.if-is_full.true) refl)

pub returns : goal.returns
returns c =
    let lt : c.args.s < length c.self.inside.slots.items = omega arith in
    let d : deque_len c.self.inside.lists.queue ≡ length c.self.inside.lists.queue.items = omega arith in
    let some = there_queue c.front.result _ _ _ c.in-Some.is d c.front.ensures.variant.0 in
    let more : (c.self.inside.next_id == 9223372036854775807) ≡ false = grind (arith, nat_tests) in
    let none = take_refused (the_view c.self.inside) _ _ _ c.args.s _ c.self.invariant c.self.view_is refl refl lt c.index.ensures
    ∙ (rw (c.if-self.false, ← c.is_holding.ensures, c.if-is_holding.false, some, more, ← c.is_full.ensures, c.if-is_full.false) refl) in
    let g = slice_get_read c.self.inside.lists.queue.items _ 0 c.in-Some.first.now d (c.in-Some.ensures.variant.0 refl) c.in-Some.ensures.lookup in
    record { allowed = none; first_is = queue_first (the_view c.self.inside) _ _ _ _ c.self.invariant c.self.view_is g }
