use Rattle.std.proofs.Common.{◌≡◌, ◌+◌, drop, length}
use Rattle.iso_codec.specs.Reads.{put_before}
use Rattle.iso_dialect.specs.Codings.{each}
use Rattle.iso_dialect.specs.Pages.{char_in}
use Rattle.iso_dialect.proofs.read.push_chars.Given as goal

abbrev pub invariant-loop-b : goal.invariant-loop-b
invariant-loop-b l = record {
  len : length l.text ≡ length l.fn.text + l.b-index;
  so_far : put_before l.text (each (char_in l.page) (drop l.b-index l.bytes)) ≡ put_before l.fn.text (each (char_in l.page) l.bytes);
}
