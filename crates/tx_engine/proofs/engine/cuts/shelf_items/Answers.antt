use Rattle.std.proofs.Common.{◌∙◌, ◌++◌, ◌∷◌, [], sym}
use Rattle.std.proofs.lemmas.List.{map-append}
use Rattle.tx_engine.proofs.engine.cuts.shelf_items.Goals as goal

pub loop-id-preserved : goal.loop-id-preserved
loop-id-preserved c = c.in_ok-push.ensures.items ∙ (λ i. c.loop-id.invariant i ++ (c.in-Some.id.now, c.in_ok-copy.ensures i) ∷ [])
    ∙ sym (map-append _ c.loop-id.yielded ((c.in-Some.id, c.in-Some.waiting) ∷ []))
