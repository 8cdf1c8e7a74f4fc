use Rattle.std.proofs.Common.{◌≡◌, take}
use Rattle.iso_codec.proofs.write.numbers_in.Given as goal
use Rattle.iso_msg.specs.Messages.{numbers_of}

abbrev pub invariant-loop-i : goal.invariant-loop-i
invariant-loop-i l = l.numbers ≡ numbers_of (take l.i l.message.fields)
