use Rattle.std.proofs.Common.{◌∙◌, ap, sym, ◌++◌, drop, List, ℕ}
use Rattle.dialect_frame.proofs.Cuts.{drop-parts}
use Rattle.dialect_frame.proofs.framer.first_message.Goals as goal

pub returns : goal.returns
returns c =
    let held = c.args.held.now in
    let first = c.args.first.now in
    let before = c.min-before.result in
    c.in_ok-extend_from_slice-2.ensures.items
    ∙ ap (λ (z : List ℕ). z ++ c.split_at-2.result.1.now)
    (c.in_ok-extend_from_slice.ensures.items ∙ ap (λ (z : List ℕ). z ++ c.split_at.result.1.now) c.in_ok-message.ensures.items)
    ∙ ap (λ (z : List ℕ). z ++ c.split_at-2.result.1.now) c.split_at.ensures.back
    ∙ ap (λ (z : List ℕ). drop before held ++ z) c.split_at-2.ensures.back
    ∙ sym (drop-parts held first c.args.start before c.min-before.ensures)
