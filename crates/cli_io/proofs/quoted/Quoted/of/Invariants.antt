use Rattle.std.proofs.Common.{◌≡◌, length, map, take}
use Rattle.cli_io.specs.Quoting.{shown}
use Rattle.cli_io.proofs.quoted.Quoted.of.Given as goal

abbrev pub invariant-loop-index : goal.invariant-loop-index
invariant-loop-index l = record {
  kept : take l.index l.kept ≡ map shown (take l.index l.bytes);
  long : length l.kept ≡ 40;
}
