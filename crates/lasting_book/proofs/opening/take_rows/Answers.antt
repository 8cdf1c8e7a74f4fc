use Rattle.std.proofs.Common.{◌∙◌}
use Rattle.lasting_book.proofs.LastItems.{taken_all, taken_more}
use Rattle.lasting_book.proofs.opening.take_rows.Goals as goal

pub loop-row-preserved : goal.loop-row-preserved
loop-row-preserved c = record {
  limit = c.take_row.ensures.limit ∙ c.loop-row.invariant.limit;
  below = c.in_ok-next.ensures.below;
  kept = c.in_ok-next.ensures.kept c.loop-row.invariant.kept;
  so_far = taken_more c.args.reach c.loop-row.days.items c.take_row.new.days.items c.args.rows.now c.loop-row.row-index c.row-item.result
      c.loop-row-test.true c.row-item.is c.loop-row.invariant.so_far c.in_ok-next.ensures.taken;
}

pub returns : goal.returns
returns c = record {
  limit = c.loop-row.invariant.limit;
  kept = c.loop-row.invariant.kept;
  taken = taken_all c.args.reach c.loop-row.days.items c.args.rows.now c.loop-row.row-index c.loop-row-test.false c.loop-row.invariant.so_far;
}
