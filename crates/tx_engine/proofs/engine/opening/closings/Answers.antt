use Rattle.std.proofs.Common.{◌≡◌, ◌+◌, length, arith, ◌∙◌, sym, refl}
use Rattle.std.proofs.lemmas.Option.{slice_get_read}
use Rattle.tx_engine.proofs.Closings.{closing_made, closing_kept}
use Rattle.tx_engine.proofs.engine.opening.closings.Goals.{then-is_over+in_ok-push, else-is_over}
use Rattle.tx_engine.proofs.engine.opening.closings.Goals as goal

pub loop-id-preserved : goal.loop-id-preserved
loop-id-preserved c =
    let there = slice_get_read c.args.rows.now _ c.loop-id.id-index c.loop-id-item.result refl c.loop-id-test.true c.loop-id-item.is in
    elim c.if-is_over.branch [
      | then-is_over+in_ok-push w ↦ (λ f v. let n : w.len.result + 1 ≡ length c.loop-id.made.items + 1 = omega arith in
          rw (w.made-is, w.in_ok-push.ensures.items, w.closing.ensures, n) (closing_made f v c.args.rows.now c.loop-id.id-index c.loop-id-item.result
          c.loop-id.made.items there (sym (c.is_over.ensures f) ∙ w.if-is_over.true) (c.loop-id.invariant f v)))
      | else-is_over w ↦ (λ f v. rw w.made-is (closing_kept f v c.args.rows.now c.loop-id.id-index c.loop-id-item.result c.loop-id.made.items there
          (sym (c.is_over.ensures f) ∙ w.if-is_over.false) (c.loop-id.invariant f v)))
    ]
