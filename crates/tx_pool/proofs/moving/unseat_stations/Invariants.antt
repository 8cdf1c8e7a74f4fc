use Rattle.std.proofs.Common.{◌≡◌, ◌+◌, ◌≤◌, ℕ, vec_len, vec_capacity, true, Some, [], get_or}
use Rattle.std.specs.Prelude.{slice_get}
use Rattle.tx_locked.specs.AllStations.{IsBack}
use Rattle.tx_pool.proofs.moving.unseat_stations.Given as goal

abbrev pub invariant-loop-seat : goal.invariant-loop-seat
invariant-loop-seat g l = (vec_len l.stations + vec_len l.seats ≡ vec_len l.initial.seats) × (vec_len l.logs ≡ vec_len l.stations)
    × (vec_len l.initial.seats ≤ vec_capacity l.stations) × (vec_len l.initial.seats ≤ vec_capacity l.logs) × (l.in_order ≡ true → (k : ℕ) (s : _) (v : _) →
    slice_get l.stations.items k ≡ Some s → slice_get l.logs.items k ≡ Some v →
    IsBack (g.K.Run.rule k) (get_or g.K.Run.objects k []) (get_or g.K.Run.counts k 0) (get_or g.K.Run.names k []) v.items (g.C.Caller.object s.participant)
    s.calls s.name)

abbrev pub decreases-loop-seat : goal.decreases-loop-seat
decreases-loop-seat g l = vec_len l.seats
