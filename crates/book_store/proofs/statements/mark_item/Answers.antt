use Rattle.std.proofs.Common.{to_z-of_z}
use Rattle.sqlite.specs.Held.{state}
use Rattle.book_store.proofs.MarkLemmas.{marks_item}
use Rattle.book_store.proofs.statements.mark_item.Goals as goal

pub returns-clause-steps : goal.returns-clause-steps
returns-clause-steps g c clean ready =
    marks_item (state g.S.Store c.args.tx.now.conn.now) (state g.S.Store c.execute.new.self.conn.now) c.args.id c.execute.result ready
    (rw (to_z-of_z c.ranges.id) at (c.execute.ensures.runs clean ready.mode))
