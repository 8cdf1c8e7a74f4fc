use Rattle.std.proofs.Common.{◌∙◌, ◌++◌, ◌∷◌, [], sym}
use Rattle.std.proofs.lemmas.List.{map-append}
use Rattle.tx_engine.proofs.engine.cuts.advice_items.Goals as goal

pub loop-place-preserved : goal.loop-place-preserved
loop-place-preserved c = c.in_ok-push.ensures.items ∙ (λ i. c.loop-place.invariant i ++ (c.in-Some.place.now, c.in_ok-copy.ensures i) ∷ [])
    ∙ sym (map-append _ c.loop-place.yielded ((c.in-Some.place, c.in-Some.advice) ∷ []))
