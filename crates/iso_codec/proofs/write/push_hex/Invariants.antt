use Rattle.std.proofs.Common.{◌≡◌, ◌++◌, take}
use Rattle.std.specs.List.{flat_map}
use Rattle.iso_codec.proofs.write.push_hex.Given as goal
use Rattle.iso_codec.specs.Spelling.{hex}

abbrev pub invariant-loop-b : goal.invariant-loop-b
invariant-loop-b l = l.out.items ≡ l.fn.out.items ++ flat_map hex (take l.b-index l.bytes)
