use Rattle.std.proofs.Common.{◌≡◌, drop}
use Rattle.iso_dialect.specs.Readings.{known_as}
use Rattle.iso_dialect.proofs.front.check_known.Given as goal

abbrev pub invariant-loop-number : goal.invariant-loop-number
invariant-loop-number l = known_as l.profile.rows (drop l.number-index l.numbers) ≡ known_as l.profile.rows l.numbers
