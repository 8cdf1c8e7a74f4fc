use Rattle.std.proofs.Common.{arith}
use Rattle.sqlite.specs.State.{HasCleanDisk}
use Rattle.sqlite.specs.Held.{state}
use Rattle.journal_tables.proofs.CellLemmas.{cells_put, then_last}
use Rattle.journal_tables.proofs.changes.put_whole.Goals as goal

pub returns-clause-steps : goal.returns-clause-steps
returns-clause-steps g c clean ready live are =
    let old = state g.S.Store c.args.tx.now.conn.now in
    let mid = state g.S.Store c.put_cells.new.tx.conn.now in
    let new = state g.S.Store c.put_last.new.tx.conn.now in
    let clean_mid : HasCleanDisk mid = omega (arith, c.put_last.ensures.keeps.survives.clean) in
    let one = cells_put c.args.id c.args.row.now c.cells_of.result old mid c.cells_of.ensures.cells (c.in_ok-put_cells.ensures.steps clean_mid ready live) in
    then_last c.args.id c.args.row.now c.as_slice.result.now c.args.parts.now c.put_last.new.parts old mid new c.put_last.result c.as_slice.ensures one are
    (c.put_last.ensures.steps clean)
