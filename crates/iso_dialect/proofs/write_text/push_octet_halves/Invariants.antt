use Rattle.std.proofs.Common.{◌≡◌, ◌+◌, ◌++◌, length, map, take}
use Rattle.iso_dialect.specs.Codings.{hex_half}
use Rattle.iso_dialect.proofs.write_text.push_octet_halves.Given as goal

abbrev pub invariant-loop-c : goal.invariant-loop-c
invariant-loop-c l = record {
  len : length l.list ≡ length l.fn.list + l.c-index;
  so_far : l.list ≡ l.fn.list ++ map hex_half (take l.c-index l.text);
}
