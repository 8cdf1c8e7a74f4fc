use Rattle.std.proofs.Common.{◌≡◌, ◌≤◌, ◌+◌, ◌++◌, map, vec_len, vec_capacity}
use Rattle.std.specs.Vec.Iter.{into_iter_items, into_iter_len}
use Rattle.sw_participant.specs.Stations.{name_of, calls_of}
use Rattle.tx_pool.proofs.pool.take_apart.Given as goal

abbrev pub invariant-loop-station : goal.invariant-loop-station
invariant-loop-station g l =
    (goal.iterator-loop-station g).can_next l.station-iterator ×
    (goal.iterator-loop-station g).is_finite l.station-iterator ×
    (vec_len l.parts + into_iter_len l.station-iterator ≤ vec_capacity l.parts) ×
    (map (λ s. s.participant) l.parts.items ++ map (λ s. s.participant) (into_iter_items l.station-iterator) ≡ map (λ s. s.participant) l.fn.stations.items) ×
    (map (λ s. s.name) l.parts.items ++ map name_of (into_iter_items l.station-iterator) ≡ map name_of l.fn.stations.items) ×
    (map (λ s. s.calls) l.parts.items ++ map calls_of (into_iter_items l.station-iterator) ≡ map calls_of l.fn.stations.items)
