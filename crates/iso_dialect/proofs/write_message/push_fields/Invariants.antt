use Rattle.std.proofs.Common.{◌≡◌, ◌++◌, take}
use Rattle.std.specs.List.{flat_map}
use Rattle.iso_dialect.specs.Writings.{field_bytes_in}
use Rattle.iso_dialect.proofs.write_message.push_fields.Given as goal

abbrev pub invariant-loop-i : goal.invariant-loop-i
invariant-loop-i l = l.out.items ≡ l.fn.out.items ++ flat_map (field_bytes_in l.profile.rows) (take l.i l.message.fields)
