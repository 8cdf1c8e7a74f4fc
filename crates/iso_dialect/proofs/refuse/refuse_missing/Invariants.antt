use Rattle.std.proofs.Common.{◌≡◌, drop}
use Rattle.iso_dialect.specs.Profiles.{missing_in}
use Rattle.iso_dialect.proofs.refuse.refuse_missing.Given as goal

abbrev pub invariant-loop-number : goal.invariant-loop-number
invariant-loop-number l = missing_in l.rows (drop l.number-index l.numbers) ≡ missing_in l.rows l.numbers
