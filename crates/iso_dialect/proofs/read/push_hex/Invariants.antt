use Rattle.std.proofs.Common.{◌≡◌, ◌+◌, ◌*◌, ◌++◌, take, length}
use Rattle.std.specs.List.{flat_map}
use Rattle.iso_codec.specs.Spelling.{hex}
use Rattle.iso_dialect.proofs.read.push_hex.Given as goal

abbrev pub invariant-loop-b : goal.invariant-loop-b
invariant-loop-b l = record {
  len : length l.text ≡ length l.fn.text + 2 * l.b-index;
  so_far : l.text ≡ l.fn.text ++ flat_map hex (take l.b-index l.bytes);
}
