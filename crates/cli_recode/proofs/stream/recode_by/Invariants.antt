use Rattle.std.proofs.Common.{◌-◌, ◌≡◌, length}
use Rattle.cli_io.specs.Inputs.{reads_made, unread}
use Rattle.cli_recode.specs.Progress.{IsSoFar}
use Rattle.cli_recode.proofs.stream.recode_by.Given as goal

abbrev pub invariant-loop-recoder : goal.invariant-loop-recoder
invariant-loop-recoder g l = record {
  so_far : IsSoFar l.fn.form l.recoding
      (record {
        unread = unread g.R.Read.remaining l.fn.input;
        written = g.O.Write.contents l.fn.out;
        reported = g.E.Write.contents l.fn.err;
      })
      (record {
        unread = unread g.R.Read.remaining l.input;
        written = g.O.Write.contents l.out;
        reported = g.E.Write.contents l.err;
      })
      l.recoder;
  room : length l.buf ≡ 65536;
}

abbrev pub decreases-loop-recoder : goal.decreases-loop-recoder
decreases-loop-recoder g l = 1048576 - reads_made l.input
