use Rattle.cli_script.specs.Scripts.{bytes_left}
use Rattle.tx_trace.specs.Follow.{Follows}
use Rattle.cli_step.specs.Doing.{point_of}
use Rattle.cli_step.specs.Runs.{Ran}
use Rattle.cli_step.proofs.script.run_actions.Given as goal
use Rattle.tx_plant.specs.Wholes.{engine_of}

abbrev pub invariant-loop-action : goal.invariant-loop-action
invariant-loop-action g l = record {
  follows : Follows (engine_of l.plant) l.tracer;
  ran : Ran l.fn.actions l.actions (point_of g.S.Store l.fn.plant) (g.W.Write.contents l.fn.out) (point_of g.S.Store l.plant) (g.W.Write.contents l.out);
}

abbrev pub decreases-loop-action : goal.decreases-loop-action
decreases-loop-action g l = bytes_left l.actions
