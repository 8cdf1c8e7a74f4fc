use Rattle.std.proofs.Common.{refl}
use Rattle.std.proofs.lemmas.Option.{slice_get_read}
use Rattle.tx_engine.proofs.FilledMaps.{places_insert}
use Rattle.tx_engine.proofs.engine.opening.advices_of.Goals as goal

pub loop-place-preserved : goal.loop-place-preserved
loop-place-preserved c =
    let there = slice_get_read c.args.items.now _ c.loop-place.place-index c.loop-place-item.result refl c.loop-place-test.true c.loop-place-item.is in
    rw (c.in-Ok.ensures.entries, c.in_ok-copy.ensures, c.loop-place.invariant) (places_insert c.args.items.now c.args.next_id c.loop-place.place-index
    c.loop-place-item.result c.requires there)
