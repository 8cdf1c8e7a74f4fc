use Rattle.std.proofs.Common.{rules, to_z-of_z, SFits, w64}
use Rattle.sqlite.specs.Held.{state}
use Rattle.book_store.specs.Items.{line_in}
use Rattle.book_store.proofs.PutLemmas.{puts_item}
use Rattle.book_store.proofs.statements.put_item.Goals as goal

pub returns-clause-steps : goal.returns-clause-steps
returns-clause-steps g c clean ready =
    let row = c.args.cells.now in
    let id : SFits w64 row.id = search rules in
    let amount : SFits w64 row.amount = search rules in
    let day : SFits w64 row.day = search rules in
    let reversed : SFits w64 row.reversed = search rules in
    puts_item (state g.S.Store c.args.tx.now.conn.now) (state g.S.Store c.execute.new.self.conn.now) (line_in row) c.execute.result ready
    (rw (to_z-of_z id, to_z-of_z amount, to_z-of_z day, to_z-of_z reversed) at (c.execute.ensures.runs clean ready.mode))
