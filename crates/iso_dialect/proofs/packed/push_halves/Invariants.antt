use Rattle.std.proofs.Common.{◌≡◌, ◌+◌, ◌*◌, ◌++◌, take, length}
use Rattle.std.specs.List.{flat_map}
use Rattle.iso_dialect.specs.Codings.{halves}
use Rattle.iso_dialect.proofs.packed.push_halves.Given as goal

abbrev pub invariant-loop-b : goal.invariant-loop-b
invariant-loop-b l = record {
  len : length l.list ≡ length l.fn.list + 2 * l.b-index;
  so_far : l.list ≡ l.fn.list ++ flat_map halves (take l.b-index l.bytes);
}
