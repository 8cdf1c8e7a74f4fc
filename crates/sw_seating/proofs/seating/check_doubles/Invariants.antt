use Rattle.std.proofs.Common.{◌≡◌, ◌≤◌, ◌+◌, drop, take, length, [], get_or}
use Rattle.std.specs.List.Sorted.{IsPermutation}
use Rattle.sw_base.specs.Refusals.{first_at}
use Rattle.sw_seating.specs.Seating.{HaveStations, names_of, part_names, double_station, is_among, no_station}
use Rattle.sw_seating.proofs.seating.check_doubles.Given as goal

abbrev pub invariant-loop-index : goal.invariant-loop-index
invariant-loop-index g l = first_at (double_station (names_of l.stations)) l.index (drop l.index (names_of l.stations))
    ≡ first_at (double_station (names_of l.stations)) 0 (names_of l.stations)
