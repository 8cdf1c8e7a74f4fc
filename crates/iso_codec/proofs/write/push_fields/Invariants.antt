use Rattle.std.proofs.Common.{◌≡◌, ◌++◌, take}
use Rattle.std.specs.List.{flat_map}
use Rattle.iso_codec.proofs.write.push_fields.Given as goal
use Rattle.iso_codec.specs.Spelling.{field_text}

abbrev pub invariant-loop-i : goal.invariant-loop-i
invariant-loop-i l = l.out.items ≡ l.fn.out.items ++ flat_map field_text (take l.i l.message.fields)
