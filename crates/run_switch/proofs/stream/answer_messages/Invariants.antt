use Rattle.std.proofs.Common.{take}
use Rattle.journal_store.specs.Kept.{kept}
use Rattle.sw_frame.specs.Feeds.{messages}
use Rattle.run_switch.specs.Points.{IsReady, point}
use Rattle.run_switch.specs.Rounds.{answering}
use Rattle.run_switch.specs.Traces.{Reports, log_of}
use Rattle.run_input.specs.Requests.{passed_over, readings}
use Rattle.run_switch.proofs.stream.answer_messages.Given as goal

abbrev pub invariant-loop-frame : goal.invariant-loop-frame
invariant-loop-frame g l = record {
  serves : Reports (answering (readings l.fn.header (messages (take l.frame-index l.list)))) (passed_over l.fn.header (messages (take l.frame-index l.list)))
      (point l.fn.switch.plant.running.engine l.fn.switch.plant.running.seats (kept g.S.Store l.fn.switch.plant.journal) l.fn.switch.answered)
      (g.O.Write.contents l.fn.out) (log_of g.E.Write.contents l.fn.edge.stderr)
      (point l.switch.plant.running.engine l.switch.plant.running.seats (kept g.S.Store l.switch.plant.journal) l.switch.answered)
      (g.O.Write.contents l.out) (log_of g.E.Write.contents l.edge.stderr);
  ready : IsReady (point l.switch.plant.running.engine l.switch.plant.running.seats (kept g.S.Store l.switch.plant.journal) l.switch.answered);
}
