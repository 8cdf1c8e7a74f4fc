use Rattle.journal_store.specs.Kept.{kept}
use Rattle.run_switch.specs.Points.{point}
use Rattle.run_switch.specs.Traces.{log_of}
use Rattle.run_switch.proofs.Rounds.{Empties}
use Rattle.run_switch.proofs.switch.Switch.drain.Given as goal

abbrev pub invariant-loop : goal.invariant-loop
invariant-loop g l = Empties (point l.fn.self.plant.running.engine l.fn.self.plant.running.seats (kept g.S.Store l.fn.self.plant.journal)
    l.fn.self.answered) (g.O.Write.contents l.fn.out) (log_of g.E.Write.contents l.fn.edge.stderr)
    (point l.self.plant.running.engine l.self.plant.running.seats (kept g.S.Store l.self.plant.journal) l.self.answered) (g.O.Write.contents l.out)
    (log_of g.E.Write.contents l.edge.stderr)
