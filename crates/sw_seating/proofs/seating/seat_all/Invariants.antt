use Rattle.std.proofs.Common.{◌≡◌, ◌≤◌, ◌+◌, drop, take, length, [], get_or}
use Rattle.std.specs.List.Sorted.{IsPermutation}
use Rattle.sw_base.specs.Refusals.{first_at}
use Rattle.sw_seating.specs.Seating.{HaveStations, names_of, part_names, double_station, is_among, no_station}
use Rattle.sw_seating.proofs.seating.seat_all.Given as goal

abbrev pub invariant-loop-k : goal.invariant-loop-k
invariant-loop-k g l =
    IsPermutation l.fn.stations.items l.stations.items
    × HaveStations (names_of l.stations.items) l.parts
    × (take l.k (names_of l.stations.items) ≡ take l.k (part_names l.parts))
