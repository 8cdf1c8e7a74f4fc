use Rattle.std.proofs.Common.{arith}
use Rattle.iso_dialect.proofs.KeptFields.{can_is, unwritable_end, unwritable_here, unwritable_next}
use Rattle.iso_dialect.proofs.write_message.first_unwritable.Goals as goal

pub returns-then-not-takes_field : goal.returns-then-not-takes_field
returns-then-not-takes_field c =
    unwritable_here c.args.profile.now.rows c.args.message.now.fields c.loop-i.i (c.field_at-number.result.0, c.field_at-number.result.1.now) _
    (omega (arith, c.field_count-i-end.ensures.count)) c.field_at-number.ensures.field
    (can_is _ _ c.field_at-number.result.0 c.field_at-number.result.1.now _ _ c.row.ensures.row c.takes_field.ensures c.if-not-takes_field.true) c.loop-i.invariant

pub loop-i-preserved : goal.loop-i-preserved
loop-i-preserved c =
    unwritable_next c.args.profile.now.rows c.args.message.now.fields c.loop-i.i (c.field_at-number.result.0, c.field_at-number.result.1.now) _
    (omega (arith, c.field_count-i-end.ensures.count)) c.field_at-number.ensures.field
    (can_is _ _ c.field_at-number.result.0 c.field_at-number.result.1.now _ _ c.row.ensures.row c.takes_field.ensures c.if-not-takes_field.false) c.loop-i.invariant

pub returns : goal.returns
returns c =
    unwritable_end c.args.profile.now.rows c.args.message.now.fields c.loop-i.i _ (omega (arith, c.field_count-i-end.ensures.count)) c.loop-i.invariant
