use Rattle.std.proofs.Common.{◌≡◌, false, ◌≤◌, ◌+◌, drop, take, length, [], get_or}
use Rattle.std.specs.List.Sorted.{IsPermutation}
use Rattle.sw_base.specs.Refusals.{first_at}
use Rattle.sw_seating.specs.Seating.{HaveStations, names_of, part_names, double_station, is_among, no_station}
use Rattle.sw_seating.proofs.seating.has_name.Given as goal

abbrev pub invariant-loop-index : goal.invariant-loop-index
invariant-loop-index g l = is_among l.name (take l.index (names_of l.stations)) ≡ false
