use Rattle.std.proofs.Common.{◌≡◌, ℕ, false, List, ◌<◌, length, None}
use Rattle.journal_store.specs.Kept.{kept}
use Rattle.run_switch.specs.Points.{IsReady, point}
use Rattle.run_input.specs.Requests.{Reads}
use Rattle.sw_issuers.specs.Sending.{SendsAdvice}
use Rattle.run_switch.specs.Legs.{AdvancesFor, stage}
use Rattle.run_switch.specs.Traces.{log_of}
use Rattle.run_switch.proofs.stream.answer_input.Given as goal

abbrev pub invariant-loop : goal.invariant-loop
invariant-loop g l = record {
  room : 0 < length l.buf.items;
  sound : l.frames.framer.failed ≡ false;
  messages : List (List ℕ);
  reads : Reads (g.R.Read.remaining l.fn.input) (g.R.Read.remaining l.input) messages l.frames.framer;
  serves : AdvancesFor l.fn.header (SendsAdvice g.L.Link.sends g.L.Link.receives g.L.Link.starves (Unit {0})) None messages
      (stage l.fn.advisor (point l.fn.switch.plant.running.engine l.fn.switch.plant.running.seats (kept g.S.Store l.fn.switch.plant.journal)
      l.fn.switch.answered) (g.O.Write.contents l.fn.out)) (log_of g.E.Write.contents l.fn.edge.stderr)
      (stage l.advisor (point l.switch.plant.running.engine l.switch.plant.running.seats (kept g.S.Store l.switch.plant.journal) l.switch.answered)
      (g.O.Write.contents l.out)) (log_of g.E.Write.contents l.edge.stderr);
  ready : IsReady (point l.switch.plant.running.engine l.switch.plant.running.seats (kept g.S.Store l.switch.plant.journal) l.switch.answered);
}
