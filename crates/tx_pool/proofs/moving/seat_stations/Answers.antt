use Rattle.std.proofs.Common.{rules, ◌≡◌, [], ◌∷◌, ◌++◌, length}
use Rattle.tx_locked.proofs.Stations.{ready_last, ready_less}
use Rattle.tx_pool.proofs.moving.seat_stations.Goals as goal

pub seat_of-requires : goal.seat_of-requires
seat_of-requires g c =
    let l = c.loop-station.stations.items in
    let e : l ≡ c.pop.new.self.items ++ c.in-Some.station ∷ [] = search rules in
    let n : length c.pop.new.self.items ≡ c.len.result = search rules in
    ready_last g.K.Run.rule g.K.Run.objects g.K.Run.counts g.K.Run.names (λ s. g.C.Caller.rule s.participant) (λ s. g.C.Caller.object s.participant)
    (λ s. s.calls) (λ s. s.name) c.pop.new.self.items l c.in-Some.station c.len.result c.loop-station.invariant.2 e n

pub loop-station-preserved : goal.loop-station-preserved
loop-station-preserved g c =
    let l = c.loop-station.stations.items in
    let e : l ≡ c.pop.new.self.items ++ c.in-Some.station ∷ [] = search rules in (
      search rules,
      search rules,
      ready_less g.K.Run.rule g.K.Run.objects g.K.Run.counts g.K.Run.names (λ s. g.C.Caller.rule s.participant) (λ s. g.C.Caller.object s.participant)
          (λ s. s.calls) (λ s. s.name) c.pop.new.self.items l c.in-Some.station c.loop-station.invariant.2 e,
    )
