use Rattle.std.proofs.Common.{◌≤◌, ◌+◌, length}
use Rattle.cli_encode.specs.Reading.{IsSoFar}
use Rattle.cli_encode.proofs.text.read_text.Given as goal

abbrev pub invariant-loop-rest : goal.invariant-loop-rest
invariant-loop-rest l = record {
  so_far : IsSoFar l.fn.encoder.size l.text l.rest l.lines l.encoder;
  count : l.encoder.count ≤ l.lines;
  short : length l.encoder.header.items ≤ 64;
  room : l.lines + length l.rest ≤ length l.text;
}

abbrev pub decreases-loop-rest : goal.decreases-loop-rest
decreases-loop-rest l = length l.rest
