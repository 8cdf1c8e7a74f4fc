use Rattle.std.proofs.Common.{rules, ◌≡◌, ◌<◌, ◌∙◌, Some, length, get_or, refl, sym, ap, subst, map, arith}
use Rattle.std.proofs.lemmas.Bool.Decides.{nat_tests}
use Rattle.tx_plant.specs.Core.{find}
use Rattle.tx_plant.specs.Wholes.{core_in}
use Rattle.tx_locked.specs.declared.finished.Finished.{Finished}
use Rattle.tx_locked.specs.Finished.{AreKept}
use Rattle.tx_locked.proofs.Finishing.{ids_more, kept_more}
use Rattle.tx_locked.proofs.locked.finished.Goals as goal

pub loop-id-preserved : goal.loop-id-preserved
loop-id-preserved c =
    let p = core_in c.args.running.now in
    let within : c.loop-id.id-index < length c.args.ids.now = grind (arith, nat_tests, c.loop-id-test.true) in
    let kept : find (get_or c.args.ids.now c.loop-id.id-index 0) p.ended ≡ Some c.in-Ok-copy.context = search rules in (
      ap (map (λ (f : Finished). f.id)) c.push_reserved.ensures.items
          ∙ ids_more c.loop-id.list.items c.args.ids.now c.loop-id.id-index _ c.loop-id.invariant.0 within refl,
      search rules,
      subst (AreKept p) (sym c.push_reserved.ensures.items) (kept_more p c.loop-id.list.items _ c.loop-id.invariant.2 kept),
    )
