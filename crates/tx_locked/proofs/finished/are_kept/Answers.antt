use Rattle.std.proofs.Common.{refl, sym, subst}
use Rattle.std.proofs.lemmas.Option.{slice_get_read}
use Rattle.tx_plant.proofs.Looping.{take_next}
use Rattle.tx_plant.specs.Wholes.{core_in}
use Rattle.tx_locked.specs.Finished.{AreKept}
use Rattle.tx_locked.proofs.Finishing.{kept_more}
use Rattle.tx_locked.proofs.finished.are_kept.Goals as goal

pub loop-one-preserved : goal.loop-one-preserved
loop-one-preserved c =
    let there = slice_get_read c.args.finished.now _ c.loop-one.one-index c.one-item.result refl c.loop-one-test.true c.one-item.is in
    subst (AreKept (core_in c.args.running.now)) (sym (take_next c.args.finished.now c.loop-one.one-index c.one-item.result there))
    (kept_more (core_in c.args.running.now) _ c.one-item.result c.loop-one.invariant (c.is_kept.ensures c.if-not-is_kept.false))
