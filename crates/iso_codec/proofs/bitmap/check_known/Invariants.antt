use Rattle.std.proofs.Common.{◌≡◌, drop}
use Rattle.iso_codec.proofs.bitmap.check_known.Given as goal
use Rattle.iso_codec.specs.Reads.{known}

abbrev pub invariant-loop-number : goal.invariant-loop-number
invariant-loop-number l = known (drop l.number-index l.numbers) ≡ known l.numbers
