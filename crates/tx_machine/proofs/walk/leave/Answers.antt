use Rattle.std.proofs.Common.{◌≡◌, ◌+◌, ◌-◌, ◌<◌, [], length, set, take, refl, ap, ◌∙◌, arith}
use Rattle.std.proofs.lemmas.Grind.{common_steps}
use Rattle.std.proofs.lemmas.List.{nil_from_length}
use Rattle.flow_asm.specs.Steps.{layout}
use Rattle.tx_machine.specs.declared.walk.StackFrame.{StackFrame}
use Rattle.tx_machine.proofs.Frames.{IsLeft, back_at, frame_at, frames_below, group_within, in_at}
use Rattle.tx_machine.proofs.walk.leave.Goals as goal
use Rattle.tx_machine.proofs.walk.leave.Goals.{After-remove-group, After-group_step, Joined-pop}

pub group_step-requires : goal.group_step-requires
group_step-requires c =
    let long : length c.args.stack.now.items ≡ (c.len-top.result - 1) + 1 = grind (arith, common_steps, c.args.stack.now.ok.0) in
    let some : 0 < length c.index_mut-frame.result.now.pending.items = grind (arith, common_steps, c.index_mut-frame.result.now.pending.ok.0) in
    group_within c.args.code.now c.index_mut-frame.result.now _ (frame_at c.args.code.now c.args.stack.now.items _ c.index_mut-frame.result.now long
    c.index_mut-frame.ensures.value c.requires) some c.remove-group.ensures.value

prepares_next : (c : After-group_step) (new : StackFrame) → new.pending.items ≡ c.remove-group.new.self.items → new.back ≡ c.index_mut-frame.result.now.back →
    IsLeft c.args.code.now c.group_step.result (set c.args.stack.now.items (c.len-top.result - 1) new) c.args.stack.now.items
prepares_next c new p b =
    let long : length c.args.stack.now.items ≡ (c.len-top.result - 1) + 1 = grind (arith, common_steps, c.args.stack.now.ok.0) in
    let some : 0 < length c.index_mut-frame.result.now.pending.items = grind (arith, common_steps, c.index_mut-frame.result.now.pending.ok.0) in
    let known : c.remove-group.result < length (layout c.args.code.now) =
    group_within c.args.code.now c.index_mut-frame.result.now _ (frame_at c.args.code.now c.args.stack.now.items _ c.index_mut-frame.result.now long
    c.index_mut-frame.ensures.value c.requires) some c.remove-group.ensures.value in
    in_at c.args.code.now c.args.stack.now.items _ c.index_mut-frame.result.now new c.remove-group.result _ long c.index_mut-frame.ensures.value
    c.remove-group.ensures.value some (p ∙ c.remove-group.ensures.items) b known c.group_step.ensures.first

pub returns-else-is_empty-2-clause-rest : goal.returns-else-is_empty-2-clause-rest
returns-else-is_empty-2-clause-rest c = (prepares_next c _ refl refl).rest

pub returns-else-is_empty-2-clause-left : goal.returns-else-is_empty-2-clause-left
returns-else-is_empty-2-clause-left c = (prepares_next c _ refl refl).left

long_pop : (c : Joined-pop) → length c.args.stack.now.items ≡ (c.len-top.result - 1) + 1
long_pop c = grind (arith, common_steps, c.args.stack.now.ok.0)

none_left : (c : Joined-pop) → c.index_mut-frame.result.now.pending.items ≡ []
none_left c = nil_from_length _ (grind (arith, common_steps, c.index_mut-frame.result.now.pending.ok.0))

goes : (c : Joined-pop) → IsLeft c.args.code.now c.index_mut-frame.result.now.back c.pop.new.self.items c.args.stack.now.items
goes c = back_at c.args.code.now c.args.stack.now.items c.pop.new.self.items (c.len-top.result - 1) c.index_mut-frame.result.now (long_pop c)
    c.index_mut-frame.ensures.value (none_left c) (c.pop.ensures.rest
    ∙ ap (λ n. take n (set c.args.stack.now.items (c.len-top.result - 1) c.index_mut-frame.result.now)) (omega arith))

pub returns-then-is_empty-2-clause-rest : goal.returns-then-is_empty-2-clause-rest
returns-then-is_empty-2-clause-rest c = (goes c).rest

pub returns-then-is_empty-2-clause-left : goal.returns-then-is_empty-2-clause-left
returns-then-is_empty-2-clause-left c = (goes c).left

pub returns-then-is_empty-2-clause-frames : goal.returns-then-is_empty-2-clause-frames
returns-then-is_empty-2-clause-frames c =
    frames_below c.args.code.now c.args.stack.now.items c.pop.new.self.items _ _ c.index_mut-frame.result.now c.requires
    (frame_at c.args.code.now c.args.stack.now.items _ c.index_mut-frame.result.now (long_pop c) c.index_mut-frame.ensures.value c.requires)
    c.pop.ensures.rest
