use Rattle.std.proofs.Common.{◌∙◌, length, ap, arith, length-append}
use Rattle.iso_dialect.proofs.KeptFields.{number_left, number_kept, left_is}
use Rattle.iso_dialect.proofs.write_message.numbers_in.Goals.{then-not-leaves_out, else-not-leaves_out}
use Rattle.iso_dialect.proofs.write_message.numbers_in.Goals as goal

pub loop-i-preserved : goal.loop-i-preserved
loop-i-preserved c =
    elim c.if-not-leaves_out.branch [
      | then-not-leaves_out w ↦
          let new = w.numbers-is ∙ w.push-then-not-leaves_out.ensures in
          record {
            so_far = number_kept c.args.profile.now.rows c.args.message.now.fields c.loop-i.i (c.field_at-number.result.0, c.field_at-number.result.1.now)
                c.loop-i.numbers c.if-not-leaves_out.numbers (omega (arith, c.field_count-i-end.ensures.count)) c.field_at-number.ensures.field
                (left_is _ _ _ c.row.ensures.row c.leaves_out.ensures ∙ w.if-not-leaves_out.true) new c.loop-i.invariant.so_far;
            small = omega (arith, simp length-append at (ap length new), c.loop-i.invariant.small);
          }
      | else-not-leaves_out w ↦ record {
        so_far = w.numbers-is ∙ number_left c.args.profile.now.rows c.args.message.now.fields c.loop-i.i
            (c.field_at-number.result.0, c.field_at-number.result.1.now) c.loop-i.numbers (omega (arith, c.field_count-i-end.ensures.count))
            c.field_at-number.ensures.field (left_is _ _ _ c.row.ensures.row c.leaves_out.ensures ∙ w.if-not-leaves_out.false) c.loop-i.invariant.so_far;
        small = omega (arith, ap length w.numbers-is, c.loop-i.invariant.small);
      }
    ]
