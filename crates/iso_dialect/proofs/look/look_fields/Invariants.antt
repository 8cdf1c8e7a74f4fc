use Rattle.std.proofs.Common.{◌≡◌, None, drop}
use Rattle.iso_dialect.specs.Lookings.{looked_fields}
use Rattle.iso_dialect.proofs.look.look_fields.Given as goal

abbrev pub invariant-loop-number : goal.invariant-loop-number
invariant-loop-number l =
    looked_fields l.profile.rows l.first (drop l.number-index l.numbers) l.rest ≡ looked_fields l.profile.rows None l.numbers l.bytes
