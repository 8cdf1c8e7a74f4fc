use Rattle.std.proofs.Common.{◌≡◌, ◌∙◌, ℕ, ◌+◌, ◌<◌, List, [], ◌∷◌, ◌++◌, get_or, length, map, take, sym, ap, refl}
use Rattle.std.proofs.lemmas.List.{map-append, take_more}
use Rattle.tx_machine.specs.declared.walk.StackFrame.{StackFrame}
use Rattle.tx_machine.specs.Position.{shown}
use Rattle.tx_machine.proofs.walk.copy_frames.Goals as goal

next_frame : (stack copies on : List StackFrame) (i : ℕ) (x y : StackFrame) → on ≡ copies ++ y ∷ [] → shown y ≡ shown x
    → i < length stack → x ≡ get_or stack i x →
    map shown copies ≡ map shown (take i stack) → map shown on ≡ map shown (take (i + 1) stack)
next_frame stack copies on i x y pushed same within is before =
    let one : take (i + 1) stack ≡ take i stack ++ x ∷ [] = take_more stack i x within ∙ ap (λ (z : StackFrame). take i stack ++ z ∷ []) (sym is) in
    rw (pushed, one, map-append shown copies (y ∷ []), map-append shown (take i stack) (x ∷ []), before, same) refl

pub loop-frame-preserved : goal.loop-frame-preserved
loop-frame-preserved c = next_frame c.args.stack.now c.loop-frame.copy.items c.push.new.self.items c.loop-frame.frame-index c.frame-item.result
    (record { back = c.frame-item.result.back; pending = c.in_ok-pending.pending }) c.in_ok-push.ensures.items
    (ap (λ (g : List ℕ). (c.frame-item.result.back, g)) (c.in_ok-pending.ensures.items ∙ c.as_slice.ensures.value)) c.loop-frame-test.true c.frame-item.is
    c.loop-frame.invariant
