use Rattle.std.proofs.Common.{◌≡◌, ◌*◌, drop, take, length}
use Rattle.iso_codec.specs.Digits.{octets}
use Rattle.iso_codec.proofs.parts.read_octets.Given as goal
use Rattle.iso_codec.specs.Reads.{put_before}

abbrev pub invariant-loop-i : goal.invariant-loop-i
invariant-loop-i l = record {
  eight : length l.bytes ≡ 8;
  so_far : put_before (take l.i l.bytes) (octets (drop (2 * l.i) l.text)) ≡ octets l.text;
}
