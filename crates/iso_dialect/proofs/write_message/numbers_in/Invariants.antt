use Rattle.std.proofs.Common.{◌≡◌, ◌∷◌, ◌≤◌, suc, length, take}
use Rattle.iso_msg.specs.Messages.{numbers_of}
use Rattle.iso_dialect.specs.Writings.{kept_in}
use Rattle.iso_dialect.proofs.write_message.numbers_in.Given as goal

abbrev pub invariant-loop-i : goal.invariant-loop-i
invariant-loop-i l = record {
  so_far : l.numbers ≡ 1 ∷ numbers_of (kept_in l.profile.rows (take l.i l.message.fields));
  small : length l.numbers ≤ suc l.i;
}
