use Rattle.std.proofs.Common.{◌<◌, refl, sym, subst, arith}
use Rattle.std.proofs.lemmas.Bool.Decides.{nat_tests}
use Rattle.std.proofs.lemmas.Option.{slice_get_read}
use Rattle.tx_plant.proofs.Looping.{take_next}
use Rattle.tx_locked.specs.AllStations.{AllThere}
use Rattle.tx_locked.proofs.Stations.{there_more}
use Rattle.tx_locked.proofs.comparing.are_there.Goals as goal

pub loop-call-preserved : goal.loop-call-preserved
loop-call-preserved c =
    let there = slice_get_read c.args.made.now _ c.loop-call.call-index c.call-item.result refl c.loop-call-test.true c.call-item.is in
    let h : c.call-item.result.call.participant < c.args.stations = grind (arith, nat_tests, c.if-from-stations.false, c.from.ensures) in
    subst (AllThere c.args.stations) (sym (take_next c.args.made.now c.loop-call.call-index c.call-item.result there))
    (there_more c.args.stations _ c.call-item.result c.loop-call.invariant h)
