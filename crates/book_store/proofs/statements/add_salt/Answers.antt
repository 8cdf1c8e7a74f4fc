use Rattle.sqlite.specs.Held.{state}
use Rattle.book_store.proofs.SaltLemmas.{adds_salt}
use Rattle.book_store.proofs.statements.add_salt.Goals as goal

pub returns-clause-steps : goal.returns-clause-steps
returns-clause-steps g c clean ready =
    adds_salt (state g.S.Store c.args.tx.now.conn.now) (state g.S.Store c.execute.new.self.conn.now) c.args.salt.now c.execute.result ready
    (c.execute.ensures.runs clean ready.mode)
