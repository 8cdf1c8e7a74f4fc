use Rattle.std.proofs.Common.{◌≡◌, map, take}
use Rattle.tx_engine.specs.Calls.{waits}
use Rattle.sw_issuers.specs.Sending.{SendsAdvice}
use Rattle.journal_store.specs.Kept.{kept}
use Rattle.run_switch.specs.Advices.{SendsAll, StaysAtRest}
use Rattle.run_switch.specs.Points.{point}
use Rattle.run_switch.specs.Stored.{plain}
use Rattle.run_switch.proofs.advices.send_each.Given as goal

abbrev pub invariant-loop-stored : goal.invariant-loop-stored
invariant-loop-stored g l = record {
  sends : SendsAll (SendsAdvice g.L.Link.sends g.L.Link.receives g.L.Link.starves (Unit {0})) (map plain (take l.stored-index l.list)) l.fn.advisor
      (point l.fn.switch.plant.running.engine l.fn.switch.plant.running.seats (kept g.S.Store l.fn.switch.plant.journal) l.fn.switch.answered) l.advisor
      (point l.switch.plant.running.engine l.switch.plant.running.seats (kept g.S.Store l.switch.plant.journal) l.switch.answered);
  rests : StaysAtRest
      (point l.fn.switch.plant.running.engine l.fn.switch.plant.running.seats (kept g.S.Store l.fn.switch.plant.journal) l.fn.switch.answered)
      (point l.switch.plant.running.engine l.switch.plant.running.seats (kept g.S.Store l.switch.plant.journal) l.switch.answered);
  queue : waits l.switch.plant.running.engine ≡ waits l.fn.switch.plant.running.engine;
}
