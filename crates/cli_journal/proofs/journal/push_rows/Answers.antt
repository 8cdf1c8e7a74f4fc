use Rattle.cli_journal.specs.Shown.{row_in}
use Rattle.cli_journal.proofs.OneMore.{item_more}
use Rattle.cli_journal.proofs.journal.push_rows.Goals as goal

pub loop-row-preserved : goal.loop-row-preserved
loop-row-preserved c =
    item_more (row_in c.args.style) c.args.rows.now c.loop-row.row-index c.row-item.result c.loop-row.text.items c.push_row.new.text.items _
    c.loop-row-test.true c.row-item.is c.loop-row.invariant c.in_ok-push_row.ensures
