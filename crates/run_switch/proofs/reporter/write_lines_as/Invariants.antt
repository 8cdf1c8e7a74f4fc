use Rattle.std.proofs.Common.{◌≡◌, length}
use Rattle.std.specs.Io.KnownBytes.{Appends}
use Rattle.tx_trace.specs.Follow.{Follows, count_of, earlier}
use Rattle.run_switch.specs.Lines.{lines_of, written_as}
use Rattle.run_switch.proofs.reporter.write_lines_as.Given as goal

abbrev pub invariant-loop-number : goal.invariant-loop-number
invariant-loop-number g l = record {
  follows : Follows l.engine l.tracer;
  counted : count_of l.tracer ≡ l.number;
  all : l.count ≡ length l.engine.past;
  written : Appends (g.W.Write.contents l.fn.out) (g.W.Write.contents l.out)
      (written_as l.form (lines_of l.engine.flow l.engine.start (earlier l.number l.engine.past)));
}
