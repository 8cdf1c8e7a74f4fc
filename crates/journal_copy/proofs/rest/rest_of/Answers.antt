use Rattle.std.proofs.Common.{sym}
use Rattle.journal_copy.specs.Rest.{rows_of}
use Rattle.journal_copy.proofs.Resting.{leaves_on}
use Rattle.journal_copy.proofs.rest.rest_of.Goals as goal

pub loop-preserved : goal.loop-preserved
loop-preserved c = record {
  leaves = leaves_on c.args.layout (rows_of c.args.stored) (rows_of c.leave_out.new.stored) c.loop.stored _ _ _ _ _ _ c.view_of.result c.loop.left_out.items
      c.push.new.self.items c.in-Err-BadRow.bad
      c.rows.ensures.parts c.rows.ensures.meta c.rows.ensures.tx c.rows.ensures.members c.rows.ensures.shelf c.rows.ensures.advices
      (rw (sym c.in-Err-BadRow.field-0-is) c.in-Err-BadRow.is) c.view_of.ensures.reading c.loop.invariant.leaves
      c.in-Ok-push.ensures.items c.leave_out.ensures;
  numbered = c.loop.invariant.numbered;
}
