use Rattle.std.proofs.Common.{◌∙◌, ap, arith}
use Rattle.iso_msg.specs.Table.{form_of}
use Rattle.iso_dialect.specs.Writings.{can_write}
use Rattle.iso_dialect.proofs.KeptFields.{all_written}
use Rattle.iso_dialect.proofs.write_message.push_fields.Goals as goal

pub push_field-requires-clause-can : goal.push_field-requires-clause-can
push_field-requires-clause-can c =
    ap (λ r. can_write r (form_of c.field_at-number.result.0) c.field_at-number.result.1.now) c.row.ensures.row
    ∙ all_written c.args.profile.now.rows c.args.message.now.fields c.loop-i.i (c.field_at-number.result.0, c.field_at-number.result.1.now) c.requires
    (omega (arith, c.field_count-i-end.ensures.count)) c.field_at-number.ensures.field
