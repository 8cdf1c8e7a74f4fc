use Rattle.journal_rows.proofs.ReadableRows.{shelf_readable, tx_readable}
use Rattle.journal_rows.proofs.faults.view_of.Goals as goal

pub read_of-requires-clause-tx : goal.read_of-requires-clause-tx
read_of-requires-clause-tx c =
    let rows = c.args.rows in
    tx_readable c.args.layout rows.parts.now rows.meta.now rows.tx.now rows.members.now rows.shelf.now rows.advices.now
    (rw c.in_default.is at c.bad_row.ensures)

pub read_of-requires-clause-shelf : goal.read_of-requires-clause-shelf
read_of-requires-clause-shelf c =
    let rows = c.args.rows in
    shelf_readable c.args.layout rows.parts.now rows.meta.now rows.tx.now rows.members.now rows.shelf.now rows.advices.now
    (rw c.in_default.is at c.bad_row.ensures)
