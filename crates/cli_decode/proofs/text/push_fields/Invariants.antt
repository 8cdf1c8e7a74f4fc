use Rattle.std.proofs.Common.{◌≡◌, drop}
use Rattle.cli_decode.specs.Printing.{with_fields}
use Rattle.cli_decode.proofs.text.push_fields.Given as goal

abbrev pub invariant-loop-number : goal.invariant-loop-number
invariant-loop-number l = with_fields l.masking l.text.items (drop l.number-index l.numbers) l.rest ≡ with_fields l.masking l.fn.text.items l.numbers l.bytes
