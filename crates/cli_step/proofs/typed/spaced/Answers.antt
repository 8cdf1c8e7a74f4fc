use Rattle.std.proofs.Common.{◌∙◌, ◌++◌, ◌∷◌, [], List, ℕ, ap, get_or, map, sym, take}
use Rattle.std.specs.Borrow.{Bor}
use Rattle.std.proofs.lemmas.List.{map_more}
use Rattle.cli_step.proofs.Spacing.{spaced_none, spaced_word}
use Rattle.cli_step.specs.Typed.{spaced}
use Rattle.cli_step.proofs.typed.spaced.Goals.{then-not-is_empty+in_ok-push+in_ok-extend_from_slice, else-not-is_empty}
use Rattle.cli_step.proofs.typed.spaced.Goals as goal

pub loop-part-preserved : goal.loop-part-preserved
loop-part-preserved c =
    let index = c.loop-part.part-index in
    let parts = c.args.parts.now in
    let none : Bor (List ℕ) = record { ref_ptr = (0, 0); now = [] } in
    let before = map (λ (p : Bor (List ℕ)). p.now) (take index parts) in
    let part = (get_or parts index none).now in
    let all = ap spaced (map_more (λ (p : Bor (List ℕ)). p.now) parts index none c.loop-part-test.true) in
    elim c.if-not-is_empty.branch [
      | then-not-is_empty+in_ok-push+in_ok-extend_from_slice w ↦
          ap (λ t. t.items) w.text-is ∙ w.in_ok-extend_from_slice.ensures.items
          ∙ ap (λ (t : List ℕ). t ++ part) (w.in_ok-push.ensures.items ∙ ap (λ (t : List ℕ). t ++ 32 ∷ []) c.loop-part.invariant)
          ∙ sym (all ∙ spaced_word before part (sym c.is_empty.ensures ∙ w.if-not-is_empty.true))
      | else-not-is_empty w ↦
          ap (λ t. t.items) w.text-is ∙ c.loop-part.invariant ∙ sym (all ∙ spaced_none before part (sym c.is_empty.ensures ∙ w.if-not-is_empty.false))
    ]
