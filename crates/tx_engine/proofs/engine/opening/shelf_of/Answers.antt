use Rattle.std.proofs.Common.{refl}
use Rattle.std.proofs.lemmas.Option.{slice_get_read}
use Rattle.tx_engine.proofs.FilledMaps.{rising_insert}
use Rattle.tx_engine.proofs.engine.opening.shelf_of.Goals as goal

pub loop-id-preserved : goal.loop-id-preserved
loop-id-preserved c =
    let there = slice_get_read c.args.items.now _ c.loop-id.id-index c.loop-id-item.result refl c.loop-id-test.true c.loop-id-item.is in
    rw (c.in-Ok.ensures.entries, c.in_ok-copy.ensures, c.loop-id.invariant)
    (rising_insert c.args.items.now 1 c.args.next_id c.loop-id.id-index c.loop-id-item.result c.requires there)
