use Rattle.journal_store.specs.Kept.{kept}
use Rattle.run_switch.specs.Points.{point}
use Rattle.run_switch.proofs.Transactions.{Under}
use Rattle.run_switch.proofs.switch.Switch.run_next.Given as goal

abbrev pub invariant-loop : goal.invariant-loop
invariant-loop g l = Under (point l.fn.self.plant.running.engine l.fn.self.plant.running.seats (kept g.S.Store l.fn.self.plant.journal) l.fn.self.answered)
    (point l.self.plant.running.engine l.self.plant.running.seats (kept g.S.Store l.self.plant.journal) l.self.answered)
