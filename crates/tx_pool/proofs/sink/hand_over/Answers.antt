use Rattle.std.proofs.Common.{rules, refl, sym, subst, take}
use Rattle.std.proofs.lemmas.Option.{slice_get_read}
use Rattle.tx_plant.proofs.Looping.{take_next}
use Rattle.tx_pool.specs.Sinks.{TakesAll}
use Rattle.tx_pool.proofs.Sinking.{takes_more}
use Rattle.tx_pool.proofs.sink.hand_over.Goals as goal

pub loop-one-preserved : goal.loop-one-preserved
loop-one-preserved g c =
    let all = c.args.finished.now in
    let n = c.loop-one.one-index in
    let there = slice_get_read all _ n c.one-item.result refl c.loop-one-test.true c.one-item.is in
    let took : g.Z.Sink.takes c.loop-one.sink c.one-item.result.id c.one-item.result.context c.take.new.self = search rules in
    subst (λ l. TakesAll g.Z.Sink.takes c.args.sink.now l c.take.new.self) (sym (take_next all n c.one-item.result there))
    (takes_more g.Z.Sink.takes c.args.sink.now (take n all) c.one-item.result c.loop-one.sink c.take.new.self c.loop-one.invariant took)
