use Rattle.std.proofs.Common.{◌≡◌, ◌≤◌, ◌+◌, ◌++◌, map, vec_len, vec_capacity}
use Rattle.std.specs.Vec.Iter.{into_iter_items, into_iter_len}
use Rattle.sw_participant.specs.Stations.{name_of, calls_of}
use Rattle.tx_pool.proofs.pool.put_together.Given as goal

abbrev pub invariant-loop-part : goal.invariant-loop-part
invariant-loop-part g l =
    (goal.iterator-loop-part g).can_next l.part-iterator ×
    (goal.iterator-loop-part g).is_finite l.part-iterator ×
    (vec_len l.stations + into_iter_len l.part-iterator ≤ vec_capacity l.stations) ×
    (map (λ s. s.participant) l.stations.items ++ map (λ s. s.participant) (into_iter_items l.part-iterator) ≡ map (λ s. s.participant) l.fn.parts.items) ×
    (map name_of l.stations.items ++ map (λ s. s.name) (into_iter_items l.part-iterator) ≡ map (λ s. s.name) l.fn.parts.items) ×
    (map calls_of l.stations.items ++ map (λ s. s.calls) (into_iter_items l.part-iterator) ≡ map (λ s. s.calls) l.fn.parts.items)
