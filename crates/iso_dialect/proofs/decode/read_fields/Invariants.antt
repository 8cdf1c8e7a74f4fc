use Rattle.std.proofs.Common.{◌≡◌, drop}
use Rattle.iso_dialect.specs.Readings.{added_as}
use Rattle.iso_dialect.proofs.decode.read_fields.Given as goal

abbrev pub invariant-loop-number : goal.invariant-loop-number
invariant-loop-number l = added_as l.profile.rows l.message (drop l.number-index l.numbers) l.rest ≡ added_as l.profile.rows l.fn.message l.numbers l.bytes
