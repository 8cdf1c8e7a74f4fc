use Rattle.std.proofs.Common.{string_bytes}
use Rattle.tx_trace.specs.Follow.{Follows}
use Rattle.cli_step.proofs.Adding.{Going}
use Rattle.cli_step.specs.Doing.{Adds, point_of}
use Rattle.cli_step.proofs.auto.auto.Given as goal
use Rattle.tx_plant.specs.Wholes.{engine_of}

abbrev pub invariant-loop : goal.invariant-loop
invariant-loop g l = record {
  follows : Follows (engine_of l.plant) l.tracer;
  goes : Adds (λ t. Going l.counter (point_of g.S.Store l.initial.plant) t (point_of g.S.Store l.plant)) (string_bytes l.initial.text) (string_bytes l.text);
}
