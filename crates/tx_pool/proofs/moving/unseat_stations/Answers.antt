use Rattle.std.proofs.Common.{rules, ◌≡◌, [], length, get_or, subst}
use Rattle.std.specs.Prelude.{IfSome}
use Rattle.tx_locked.specs.AllStations.{IsBack}
use Rattle.tx_locked.proofs.Stations.{both_push}
use Rattle.tx_pool.proofs.moving.unseat_stations.Goals as goal

pub loop-seat-preserved : goal.loop-seat-preserved
loop-seat-preserved g c =
    let l = c.loop-seat in
    let back = c.unseat-index in
    let it = back.result in (
      search rules,
      search rules,
      search rules,
      search rules,
      λ good.
          let before = c.both-in_order.ensures.one good in
          let at = c.is_at-here.ensures (c.both-in_order.ensures.other good) in
          let place : c.len.result ≡ length l.stations.items = search rules in
          let moved = subst (λ z. IsBack (g.K.Run.rule z) (get_or g.K.Run.objects z []) (get_or g.K.Run.counts z 0) (get_or g.K.Run.names z [])
          it.log.items (g.C.Caller.object it.parts.participant) it.parts.calls it.parts.name) place
          (subst (λ z. IfSome z (λ k. IsBack (g.K.Run.rule k) (get_or g.K.Run.objects k []) (get_or g.K.Run.counts k 0) (get_or g.K.Run.names k [])
          it.log.items (g.C.Caller.object it.parts.participant) it.parts.calls it.parts.name)) at back.ensures.back) in
          both_push (λ k s v. IsBack (g.K.Run.rule k) (get_or g.K.Run.objects k []) (get_or g.K.Run.counts k 0) (get_or g.K.Run.names k []) v.items
          (g.C.Caller.object s.participant) s.calls s.name) l.stations.items c.push_reserved.new.self.items l.logs.items
          c.push_reserved-in-Some.new.self.items it.parts it.log (search rules) (l.invariant.4 before) moved c.push_reserved.ensures.items
          c.push_reserved-in-Some.ensures.items,
    )

pub returns-clause-back : goal.returns-clause-back
returns-clause-back g c = λ good. record { long = search rules; logged = search rules; each = c.loop-seat.invariant.4 good }
