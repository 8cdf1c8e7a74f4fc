use Rattle.std.proofs.Common.{◌≡◌, ◌≤◌, ◌+◌, drop, take, length, [], get_or}
use Rattle.std.specs.List.Sorted.{IsPermutation}
use Rattle.sw_base.specs.Refusals.{first_at}
use Rattle.sw_seating.specs.Seating.{HaveStations, names_of, part_names, double_station, is_among, no_station}
use Rattle.sw_seating.proofs.seating.find_from.Given as goal

abbrev pub invariant-loop-at : goal.invariant-loop-at
invariant-loop-at g l = (l.from ≤ l.at) × (is_among l.name (drop l.at (names_of l.stations)) ≡ is_among l.name (drop l.from (names_of l.stations)))
