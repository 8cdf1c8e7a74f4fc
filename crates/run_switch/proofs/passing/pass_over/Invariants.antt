use Rattle.std.proofs.Common.{map, take}
use Rattle.run_switch.specs.Traces.{PassesOver, log_of}
use Rattle.run_switch.proofs.passing.pass_over.Given as goal

abbrev pub invariant-loop-message : goal.invariant-loop-message
invariant-loop-message g l = record {
  passes : PassesOver (map (λ m. m.header.items) (take l.message-index l.list)) (g.O.Write.contents l.fn.out) (log_of g.E.Write.contents l.fn.edge.stderr)
      (g.O.Write.contents l.out) (log_of g.E.Write.contents l.edge.stderr);
}
