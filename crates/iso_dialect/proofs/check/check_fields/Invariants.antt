use Rattle.std.proofs.Common.{◌≡◌, drop}
use Rattle.iso_dialect.specs.Readings.{fields_over}
use Rattle.iso_dialect.proofs.check.check_fields.Given as goal

abbrev pub invariant-loop-number : goal.invariant-loop-number
invariant-loop-number l = fields_over l.profile.rows (drop l.number-index l.numbers) l.rest ≡ fields_over l.profile.rows l.numbers l.bytes
