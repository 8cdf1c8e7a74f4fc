use Rattle.std.proofs.lemmas.List.{get_or_default}
use Rattle.cli_journal.specs.LeftOut.{left_out_as}
use Rattle.cli_journal.proofs.OneMore.{item_more}
use Rattle.cli_journal.proofs.left_out.push_left_out.Goals as goal

pub loop-bad-preserved : goal.loop-bad-preserved
loop-bad-preserved c =
    item_more (left_out_as c.args.form) c.args.rows.now c.loop-bad.bad-index _ c.loop-bad.text.items c.push_bad_row.new.text.items _ c.loop-bad-test.true
    (get_or_default c.args.rows.now c.loop-bad.bad-index _ _ c.loop-bad-test.true) c.loop-bad.invariant c.in_ok-push_bad_row.ensures
