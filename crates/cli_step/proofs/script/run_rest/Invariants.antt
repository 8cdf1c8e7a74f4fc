use Rattle.cli_lines.specs.Lines.{room, to_come}
use Rattle.tx_trace.specs.Follow.{Follows}
use Rattle.cli_step.proofs.Joining.{RanTo}
use Rattle.cli_step.specs.Doing.{point_of}
use Rattle.cli_step.specs.Runs.{Grows}
use Rattle.cli_step.proofs.script.run_rest.Given as goal
use Rattle.tx_plant.specs.Wholes.{engine_of}

abbrev pub invariant-loop-line : goal.invariant-loop-line
invariant-loop-line g l = record {
  follows : Follows (engine_of l.plant) l.tracer;
  ran : RanTo (to_come g.R.Read.remaining l.fn.lines) (to_come g.R.Read.remaining l.lines)
      (point_of g.S.Store l.fn.plant) (g.W.Write.contents l.fn.out) (point_of g.S.Store l.plant) (g.W.Write.contents l.out) (room l.lines) (room l.fn.lines);
  grown : Grows (g.W.Write.contents l.fn.out) (g.W.Write.contents l.out);
}

abbrev pub decreases-loop-line : goal.decreases-loop-line
decreases-loop-line g l = room l.lines
