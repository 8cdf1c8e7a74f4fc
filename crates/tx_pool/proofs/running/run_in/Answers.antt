use Rattle.std.proofs.Common.{◌≡◌, ◌≤◌, ◌∙◌, ℕ, [], length, map, vec_len, sym, ap, subst}
use Rattle.journal_store.specs.Kept.{kept}
use Rattle.tx_plant.specs.Core.{Core}
use Rattle.tx_plant.specs.Plant.{seen}
use Rattle.tx_plant.specs.Written.{IsWritten}
use Rattle.tx_plant.specs.Wholes.{core_in, engine_in}
use Rattle.tx_pool.specs.Drives.{Drove}
use Rattle.tx_pool.specs.Sinks.{SinkTook, SinkTookSome}
use Rattle.tx_pool.proofs.Ends.{ended_drove, ended_grown, ended_offered, ended_written, err_with, ok_both, ok_three}
use Rattle.tx_pool.proofs.Sinking.{kept_none, some_of, took_all}
use Rattle.tx_pool.proofs.running.run_in.Goals as goal
use Rattle.tx_history.proofs.EntryCounts.{entries_length}

pub conclude-requires-clause-from : goal.conclude-requires-clause-from
conclude-requires-clause-from g c =
    let w = engine_in c.args.task.running in
    ap length (rw c.engine-2.ensures at c.history-from.ensures.entries)
    ∙ (entries_length w.flow w.start w.past ∙ ap (λ (z : Core). length z.world.past) c.requires.start)

pub conclude-requires-clause-marked : goal.conclude-requires-clause-marked
conclude-requires-clause-marked g c =
    let w = engine_in c.args.task.running in
    let long : length c.history-from.result.now ≡ length w.past = ap length (rw c.engine-2.ensures at c.history-from.ensures.entries)
    ∙ entries_length w.flow w.start w.past in
    subst (λ (z : ℕ). c.mark-mark.result ≤ z) (sym long) (rw c.engine.ensures at c.mark-mark.ensures.within)

pub returns-clause-drove : goal.returns-clause-drove
returns-clause-drove g c =
    let j = kept g.S.Store c.args.task.journal in
    let k = kept g.S.Store c.work-worked.result.kept.journal in
    let es = c.work-worked.result.kept.written.items in
    ok_both _ _ _ c.conclude.result c.conclude.ensures.ended c.conclude.ensures.kept (λ r e d.
    subst (λ z. Drove g.K.Run.rule g.K.Run.objects g.K.Run.counts (record { core = g.K.Run.start; journal = seen j })
    (map (λ s. g.C.Caller.object s.participant) r.stations.items) (map (λ s. s.calls) r.stations.items)
    (record { core = core_in r.running; journal = seen (kept g.S.Store z) })) (sym d.1)
    (ended_drove g.K.Run.rule g.K.Run.objects g.K.Run.counts g.K.Run.start (core_in r.running) e.0 es _ _ j k c.requires.lists.1
    c.requires.seats c.requires.marked e.1 (c.work-worked.ensures.all d.0).wrote))

pub returns-clause-grown : goal.returns-clause-grown
returns-clause-grown g c = ok_both _ _ _ c.conclude.result c.conclude.ensures.ended c.conclude.ensures.kept
    (λ r e d. ended_grown g.K.Run.rule g.K.Run.objects g.K.Run.counts g.K.Run.start (core_in r.running) e.0 _ _ _ e.1)

pub returns-clause-offered : goal.returns-clause-offered
returns-clause-offered g c = ok_both _ _ _ c.conclude.result c.conclude.ensures.ended c.conclude.ensures.kept
    (λ r e d. ended_offered g.K.Run.rule g.K.Run.objects g.K.Run.counts g.K.Run.start (core_in r.running) e.0 _ _ _ g.K.Run.given
    (g.O.Source.given r.source) (g.O.Source.ended r.source) e.1 e.2)

pub returns-clause-written : goal.returns-clause-written
returns-clause-written g c =
    let j = kept g.S.Store c.args.task.journal in
    let k = kept g.S.Store c.work-worked.result.kept.journal in
    let es = c.work-worked.result.kept.written.items in
    ok_both _ _ _ c.conclude.result c.conclude.ensures.ended c.conclude.ensures.kept (λ r e d.
    subst (λ z. IsWritten g.K.Run.start.world j → IsWritten (engine_in r.running) (kept g.S.Store z)) (sym d.1)
    (ended_written g.K.Run.rule g.K.Run.objects g.K.Run.counts g.K.Run.start (core_in r.running) e.0 es _ _ j k c.requires.marked e.1
    (c.work-worked.ensures.all d.0).wrote))

pub returns-clause-lost : goal.returns-clause-lost
returns-clause-lost g c =
    err_with _ _ c.conclude.result c.conclude.ensures.lost (λ e d. ap (λ v. vec_len v) d.1 ∙ (c.unseat_stations.ensures.count ∙ c.seat_stations.ensures))

pub returns-clause-took : goal.returns-clause-took
returns-clause-took g c =
    let j = kept g.S.Store c.args.task.journal in
    let k = kept g.S.Store c.work-worked.result.kept.journal in
    let es = c.work-worked.result.kept.written.items in
    ok_three _ _ _ _ c.conclude.result c.conclude.ensures.ended c.conclude.ensures.kept c.conclude.ensures.taken (λ r e d t.
    subst (λ z. SinkTook g.Z.Sink.takes g.K.Run.start.world (core_in r.running) c.args.task.sink z) (sym t.0)
    (took_all g.Z.Sink.takes g.K.Run.start g.K.Run.start.world (core_in r.running) j k es c.args.task.sink c.work-worked.result.kept.sink
    c.work-worked.result.kept.taken.items (c.work-worked.ensures.all d.0) e.1.copies t.1))

pub returns-clause-some : goal.returns-clause-some
returns-clause-some g c =
    let j = kept g.S.Store c.args.task.journal in
    let z = c.args.task.sink in
    err_with _ _ c.conclude.result c.conclude.ensures.lost (λ e d. subst (λ y. SinkTookSome g.Z.Sink.takes g.K.Run.start j (kept g.S.Store e.journal) z y) (sym d.2)
    (subst (λ k. SinkTookSome g.Z.Sink.takes g.K.Run.start j (kept g.S.Store k) z c.work-worked.result.kept.sink) (sym d.0) c.work-worked.ensures.some))

pub returns-in_default-clause-some : goal.returns-in_default-clause-some
returns-in_default-clause-some g c =
    let j = kept g.S.Store c.args.task.journal in
    let z = c.args.task.sink in
    some_of g.Z.Sink.takes g.K.Run.start j j [] z z [] (kept_none g.Z.Sink.takes g.K.Run.start j z)

pub returns-clause-settled : goal.returns-clause-settled
returns-clause-settled g c = ok_both _ _ _ c.conclude.result c.conclude.ensures.ended c.conclude.ensures.kept (λ r e d. e.1.settled)
