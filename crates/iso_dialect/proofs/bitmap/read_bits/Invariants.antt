use Rattle.std.proofs.Common.{◌≡◌, ◌≤◌, ◌+◌, ◌*◌, drop, length}
use Rattle.iso_codec.specs.Digits.{bits_at}
use Rattle.iso_dialect.proofs.bitmap.read_bits.Given as goal
use Rattle.iso_codec.specs.Reads.{put_before}

abbrev pub invariant-loop-c : goal.invariant-loop-c
invariant-loop-c l = record {
  at : l.at ≡ l.first + 4 * l.c-index;
  small : length l.numbers ≤ length l.fn.numbers + 4 * l.c-index;
  so_far : put_before l.numbers (bits_at l.at (drop l.c-index l.text)) ≡ put_before l.fn.numbers (bits_at l.first l.text);
}
