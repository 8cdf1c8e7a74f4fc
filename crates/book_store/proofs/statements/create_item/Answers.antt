use Rattle.sqlite.specs.Held.{state}
use Rattle.book_store.proofs.SaltLemmas.{creates_item}
use Rattle.book_store.proofs.statements.create_item.Goals as goal

pub returns-clause-makes : goal.returns-clause-makes
returns-clause-makes g c clean stage =
    creates_item (state g.S.Store c.args.tx.now.conn.now) (state g.S.Store c.execute.new.self.conn.now) c.execute.result stage
    (c.execute.ensures.runs clean stage.mode)
