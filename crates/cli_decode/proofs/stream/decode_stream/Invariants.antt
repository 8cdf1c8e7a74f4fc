use Rattle.std.proofs.Common.{◌-◌, ◌≡◌, length}
use Rattle.cli_io.specs.Inputs.{reads_made, unread}
use Rattle.cli_decode.specs.Progress.{IsSoFar}
use Rattle.cli_decode.proofs.stream.decode_stream.Given as goal

abbrev pub invariant-loop-decoder : goal.invariant-loop-decoder
invariant-loop-decoder g l = record {
  so_far : IsSoFar l.style (unread g.R.Read.remaining l.fn.input) (unread g.R.Read.remaining l.input) (g.W.Write.contents l.fn.out)
      (g.W.Write.contents l.out) (reads_made l.input) l.decoder;
  room : length l.buf ≡ 65536;
}

abbrev pub decreases-loop-decoder : goal.decreases-loop-decoder
decreases-loop-decoder g l = 1048576 - reads_made l.input
