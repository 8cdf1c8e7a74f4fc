use Rattle.tx_plant.specs.Wholes.{core_in}
use Rattle.tx_locked.proofs.Finishing.{ok_with, were_kept}
use Rattle.tx_locked.proofs.locked.Locked.finished.Goals as goal

pub returns-clause-kept : goal.returns-clause-kept
returns-clause-kept g c =
    let l = c.self.inside in
    ok_with _ _ c.finished.result c.finished.ensures.kept (λ list kept. were_kept g.K.Run.start (core_in l.running) l.getter.passed l.book.total l.made.items
    list.items c.self.invariant.0 kept)
