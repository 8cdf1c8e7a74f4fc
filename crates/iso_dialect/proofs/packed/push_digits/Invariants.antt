use Rattle.std.proofs.Common.{◌≡◌, ◌+◌, drop, length}
use Rattle.iso_codec.specs.Reads.{put_before}
use Rattle.iso_dialect.specs.Codings.{char_of, each}
use Rattle.iso_dialect.proofs.packed.push_digits.Given as goal

abbrev pub invariant-loop-half : goal.invariant-loop-half
invariant-loop-half l = record {
  len : length l.text ≡ length l.fn.text + l.half-index;
  so_far : put_before l.text (each char_of (drop l.half-index l.list)) ≡ put_before l.fn.text (each char_of l.list);
}
