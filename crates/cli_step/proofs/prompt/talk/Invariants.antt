use Rattle.cli_lines.specs.Lines.{room, to_come}
use Rattle.tx_trace.specs.Follow.{Follows}
use Rattle.cli_step.proofs.Prompting.{TalksTo}
use Rattle.cli_step.specs.Doing.{point_of}
use Rattle.cli_step.specs.Prompts.{scene}
use Rattle.cli_step.specs.Runs.{Grows}
use Rattle.cli_step.proofs.prompt.talk.Given as goal
use Rattle.tx_plant.specs.Wholes.{engine_of}

abbrev pub invariant-loop-last : goal.invariant-loop-last
invariant-loop-last g l = record {
  follows : Follows (engine_of l.traced.plant) l.traced.tracer;
  talked : TalksTo l.fn.last.items l.last.items (to_come g.R.Read.remaining l.fn.lines) (to_come g.R.Read.remaining l.lines)
      (scene (point_of g.S.Store l.fn.traced.plant) (g.W.Write.contents l.fn.out) (g.E.Write.contents l.fn.err))
      (scene (point_of g.S.Store l.traced.plant) (g.W.Write.contents l.out) (g.E.Write.contents l.err));
  grows_out : Grows (g.W.Write.contents l.fn.out) (g.W.Write.contents l.out);
  grows_err : Grows (g.E.Write.contents l.fn.err) (g.E.Write.contents l.err);
}

abbrev pub decreases-loop-last : goal.decreases-loop-last
decreases-loop-last g l = room l.lines
