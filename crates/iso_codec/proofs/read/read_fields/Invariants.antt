use Rattle.std.proofs.Common.{◌≡◌, drop}
use Rattle.iso_codec.proofs.read.read_fields.Given as goal
use Rattle.iso_codec.specs.GrowingMessage.{added}

abbrev pub invariant-loop-number : goal.invariant-loop-number
invariant-loop-number l = added l.message (drop l.number-index l.numbers) l.rest ≡ added l.fn.message l.numbers l.bytes
