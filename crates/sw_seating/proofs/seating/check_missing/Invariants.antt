use Rattle.std.proofs.Common.{◌≡◌, ◌≤◌, ◌+◌, drop, take, length, [], get_or}
use Rattle.std.specs.List.Sorted.{IsPermutation}
use Rattle.sw_base.specs.Refusals.{first_at}
use Rattle.sw_seating.specs.Seating.{HaveStations, names_of, part_names, double_station, is_among, no_station}
use Rattle.sw_seating.proofs.seating.check_missing.Given as goal

abbrev pub invariant-loop-number : goal.invariant-loop-number
invariant-loop-number g l = first_at (no_station (names_of l.stations)) l.number (drop l.number l.parts)
    ≡ first_at (no_station (names_of l.stations)) 0 l.parts
