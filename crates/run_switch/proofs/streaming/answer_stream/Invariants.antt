use Rattle.run_switch.specs.Legs.{AdvancesBy, stage}
use Rattle.run_switch.specs.Points.{IsReady, point_of}
use Rattle.run_switch.specs.Traces.{log_of}
use Rattle.sw_issuers.specs.Sending.{SendsAdvice}
use Rattle.run_switch.proofs.streaming.answer_stream.Given as goal

abbrev pub invariant-loop : goal.invariant-loop
invariant-loop g l = record {
  serves : AdvancesBy (SendsAdvice g.L.Link.sends g.L.Link.receives g.L.Link.starves (Unit {0})) l.fn.stream.order l.arrivals
      (stage l.fn.advisor (point_of g.S.Store l.fn.switch) (g.O.Write.contents l.fn.out)) (log_of g.E.Write.contents l.fn.edge.stderr)
      (stage l.advisor (point_of g.S.Store l.switch) (g.O.Write.contents l.out)) (log_of g.E.Write.contents l.edge.stderr);
  ready : IsReady (point_of g.S.Store l.switch);
}
