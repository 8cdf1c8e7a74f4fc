use Rattle.std.proofs.Common.{◌≡◌, ◌∙◌, ap, subst, List, ℕ, take, ◌++◌, Some, length, arith}
use Rattle.sw_frame.specs.Stream.{State, IsPartial}
use Rattle.sw_base.specs.Digits.{number_of}
use Rattle.sw_frame.proofs.Frames.{first-framed, held-below, open-partial}
use Rattle.sw_frame.proofs.framer.Framer.advance.Goals as goal

pub take-requires-clause-whole : goal.take-requires-clause-whole
take-requires-clause-whole c =
    let held = c.args.self.now.pending in
    let piece = c.args.piece.now in
    let n = c.in-Length.length in
    let view = ap (λ (s : State). s.pending) c.self.view_is in
    let same : c.deref.result.now ≡ held = c.deref.ensures.value ∙ view in
    let number = subst (λ (z : List ℕ). number_of (take 4 (z ++ piece)) ≡ Some n) same c.in-Length.ensures.1 in
    let partial = subst (λ (z : List ℕ). IsPartial z) view (open-partial c.self.inside.failed c.self.inside.held.items c.self.invariant c.if-self.false) in
    let below = held-below held piece n partial number in
    first-framed held piece n _ (omega (arith, below, ap length view)) (omega (arith, below, ap length view)) number
