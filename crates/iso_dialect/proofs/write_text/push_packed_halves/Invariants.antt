use Rattle.std.proofs.Common.{◌≡◌, ◌+◌, ◌++◌, length, map, take}
use Rattle.iso_dialect.specs.Codings.{half_of}
use Rattle.iso_dialect.proofs.write_text.push_packed_halves.Given as goal

abbrev pub invariant-loop-c : goal.invariant-loop-c
invariant-loop-c l = record {
  len : length l.list ≡ length l.fn.list + l.c-index;
  so_far : l.list ≡ l.fn.list ++ map half_of (take l.c-index l.text);
}
