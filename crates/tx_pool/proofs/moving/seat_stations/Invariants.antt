use Rattle.std.proofs.Common.{◌≡◌, ◌+◌, ◌≤◌, vec_len, vec_capacity}
use Rattle.tx_locked.specs.AllStations.{AreReady}
use Rattle.tx_pool.proofs.moving.seat_stations.Given as goal

abbrev pub invariant-loop-station : goal.invariant-loop-station
invariant-loop-station g l = (vec_len l.seats + vec_len l.stations ≡ vec_len l.initial.stations) × (vec_len l.initial.stations ≤ vec_capacity l.seats)
    × AreReady g.K.Run.rule g.K.Run.objects g.K.Run.counts g.K.Run.names (λ s. g.C.Caller.rule s.participant) (λ s. g.C.Caller.object s.participant)
    (λ s. s.calls) (λ s. s.name) l.stations.items

abbrev pub decreases-loop-station : goal.decreases-loop-station
decreases-loop-station g l = vec_len l.stations
