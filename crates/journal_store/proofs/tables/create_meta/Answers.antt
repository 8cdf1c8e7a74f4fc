use Rattle.sqlite.specs.Held.{state}
use Rattle.journal_store.proofs.MakeLemmas.{creates_meta}
use Rattle.journal_store.proofs.tables.create_meta.Goals as goal

pub returns-clause-makes : goal.returns-clause-makes
returns-clause-makes g c clean stage =
    creates_meta (state g.S.Store c.args.tx.now.conn.now) (state g.S.Store c.execute.new.self.conn.now) c.execute.result stage
    (c.execute.ensures.runs clean stage.mode)
