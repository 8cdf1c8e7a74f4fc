use Rattle.std.proofs.Common.{◌∙◌, ◌++◌, ◌∷◌, [], List, ℕ, ap, arith}
use Rattle.journal_store.proofs.OpenLemmas.{parts_read}
use Rattle.journal_store.proofs.opening.parts_of.Goals as goal

pub loop-row-preserved : goal.loop-row-preserved
loop-row-preserved c =
    let before = c.loop-row.invariant in (
      let same = before.0 in omega (arith, same),
      parts_read c.args.rows.now c.loop-row.parts c.push.new.self c.loop-row.row-index c.loop-row.at c.row-item.result c.in-Some.name.now
          c.loop-row-test.true c.row-item.is before.0 before.1 c.in-Some.ensures (c.in_ok-push.ensures.ok ∙ ap (λ (n : List ℕ). c.loop-row.parts ++ n ∷ [])
          c.in-Ok.ensures),
    )
