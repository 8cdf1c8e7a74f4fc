use Rattle.std.proofs.Common.{◌≡◌, drop}
use Rattle.iso_dialect.specs.Writings.{unwritable_in}
use Rattle.iso_dialect.proofs.write_message.first_unwritable.Given as goal

abbrev pub invariant-loop-i : goal.invariant-loop-i
invariant-loop-i l = unwritable_in l.profile.rows (drop l.i l.message.fields) ≡ unwritable_in l.profile.rows l.message.fields
