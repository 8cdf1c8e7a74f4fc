use Rattle.std.proofs.Common.{◌≡◌, drop}
use Rattle.iso_codec.specs.Reads.{fields_over}
use Rattle.iso_codec.proofs.check.check_fields.Given as goal

abbrev pub invariant-loop-number : goal.invariant-loop-number
invariant-loop-number l = fields_over (drop l.number-index l.numbers) l.rest ≡ fields_over l.numbers l.bytes
