use Rattle.std.proofs.Common.{rules, ◌≡◌, ◌∙◌, length, map, refl, ap}
use Rattle.tx_pool.proofs.Concluding.{concluded, reported}
use Rattle.tx_locked.proofs.Stations.{names_back}
use Rattle.tx_pool.proofs.ending.conclude.Goals as goal
use Rattle.tx_plant.specs.Wholes.{core_in, engine_in}

pub returns-clause-ended : goal.returns-clause-ended
returns-clause-ended g c =
    let r = c.args.remains in
    let s = c.in-Ok.settled in
    let f = c.finish.ensures in
    let agrees = c.if-not-both.ensures.one refl in
    let all_done = c.both-agrees.ensures.one agrees in
    let all_same = c.both-agrees.ensures.other agrees in
    let since = c.in-Ok.ensures.since (c.both-all_done.ensures.one all_done) in
    let order = c.both-all_same.ensures.one all_same in
    let agree = c.agree-all_agree.ensures (c.both-all_same.ensures.other all_same) in
    rw (f.running, f.source, f.stations) (concluded g.K.Run.rule g.K.Run.objects g.K.Run.counts g.K.Run.names (λ s. g.C.Caller.object s.participant)
    (λ s. s.calls) (λ s. s.name) (λ v. v.items) (λ v. v.items) g.K.Run.start (core_in s.running) g.K.Run.given
    (g.O.Source.given s.source) (g.O.Source.ended s.source) r.mark r.from s.made.items c.as_slice.result.now r.back.logs.items c.as_slice-2.result.now
    c.as_slice-3.result.now r.worked.kept.written.items c.as_slice-4.result.now r.back.stations.items c.as_slice.ensures.value
    c.as_slice-2.ensures.value c.as_slice-4.ensures.value c.requires.mark c.requires.lists.0 since (rw c.engine.ensures at agree)
    (c.requires.back order) c.in-Ok.ensures.engine)

pub returns-clause-names : goal.returns-clause-names
returns-clause-names g c =
    let f = c.finish.ensures in
    let all_same = c.both-agrees.ensures.other (c.if-not-both.ensures.one refl) in
    let order = c.both-all_same.ensures.one all_same in
    ap (map (λ s. s.name)) (ap (λ (z : _). z.items) f.stations) ∙ names_back g.K.Run.rule g.K.Run.objects g.K.Run.counts g.K.Run.names
    (λ s. g.C.Caller.object s.participant) (λ s. s.calls) (λ s. s.name) (λ v. v.items) c.args.remains.back.stations.items c.args.remains.back.logs.items
    c.requires.lists.1 (c.requires.back order)

pub returns-clause-reports : goal.returns-clause-reports
returns-clause-reports g c =
    let r = c.args.remains in
    let s = c.in-Ok.settled in
    let f = c.finish.ensures in
    let n : length s.receipts.items ≡ g.K.Run.start.world.sessions = search rules in
    let all_same = c.both-agrees.ensures.other (c.if-not-both.ensures.one refl) in
    let agree = c.agree-all_agree.ensures (c.both-all_same.ensures.other all_same) in
    rw (f.running, f.receipts) (reported (λ v. v.items) (λ v. v.items) g.K.Run.start.world (engine_in s.running) r.mark r.from c.as_slice.result.now
    c.as_slice-2.result.now s.receipts.items c.as_slice-3.result.now c.as_slice-4.result.now c.finish.result.report.finished
    c.finish.result.report.shelved c.as_slice-3.ensures.value c.requires.from n (rw c.engine.ensures at agree) f.finished f.shelved)
