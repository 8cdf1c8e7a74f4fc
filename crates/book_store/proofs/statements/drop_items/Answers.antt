use Rattle.std.proofs.Common.{to_z-of_z}
use Rattle.sqlite.specs.Held.{state}
use Rattle.book_store.proofs.DropLemmas.{drops_items}
use Rattle.book_store.proofs.statements.drop_items.Goals as goal

pub returns-clause-steps : goal.returns-clause-steps
returns-clause-steps g c clean ready =
    drops_items c.args.day c.args.last (state g.S.Store c.args.tx.now.conn.now) (state g.S.Store c.execute.new.self.conn.now) c.execute.result ready
    (rw (to_z-of_z c.ranges.day, to_z-of_z c.ranges.last) at (c.execute.ensures.runs clean ready.mode))
