use Rattle.std.proofs.Common.{ap, subst, sym}
use Rattle.journal_store.specs.Kept.{kept}
use Rattle.tx_plant.specs.Core.{core}
use Rattle.tx_plant.specs.Plant.{seen}
use Rattle.run_switch.specs.Points.{IsAtRest}
use Rattle.run_switch.proofs.Rounds.{given_all}
use Rattle.run_switch.proofs.switch.Switch.note_given.Goals as goal

pub returns-clause-answered : goal.returns-clause-answered
returns-clause-answered g c =
    given_all (core c.args.self.now.plant.running.engine c.args.self.now.plant.running.seats) _ _ _ c.args.self.now.answered _ _
    c.take_ended-given.ensures.left (ap (λ j. seen (kept g.S.Store j)) c.take_ended-given.ensures.journal)
    (rw (sym c.ended-2.ensures) c.last_above-self.ensures)
    (rw (sym c.ended.ensures) c.in_ok-count_above.ensures)

pub returns-clause-rest : goal.returns-clause-rest
returns-clause-rest g c = subst IsAtRest (sym (returns-clause-answered g c)) c.requires.rests
