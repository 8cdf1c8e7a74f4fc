use Rattle.std.proofs.Common.{◌∙◌, ◌++◌, refl, sym, ap, take}
use Rattle.std.proofs.lemmas.Option.{slice_get_read}
use Rattle.tx_plant.proofs.Looping.{take_next}
use Rattle.tx_locked.specs.Finished.{finished_by, finished_in}
use Rattle.tx_locked.proofs.Finishing.{finished_more}
use Rattle.tx_locked.proofs.finished.finished_in.Goals as goal

pub loop-entry-preserved : goal.loop-entry-preserved
loop-entry-preserved c =
    let e = c.entry-item.result in
    let there = slice_get_read c.args.entries.now _ c.loop-entry.entry-index e refl c.loop-entry-test.true c.entry-item.is in
    c.in_ok-add_finished.ensures ∙ (ap (λ l. l ++ finished_by e.change.row e.change.shelved) c.loop-entry.invariant
    ∙ (sym (finished_more (take c.loop-entry.entry-index c.args.entries.now) e)
    ∙ ap finished_in (sym (take_next c.args.entries.now c.loop-entry.entry-index e there))))
