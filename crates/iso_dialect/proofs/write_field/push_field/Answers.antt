use Rattle.std.proofs.Common.{◌∙◌, sym}
use Rattle.iso_dialect.proofs.TextLengths.{short_value}
use Rattle.iso_dialect.proofs.write_field.push_field.Goals as goal

pub push_value-requires-clause-small : goal.push_value-requires-clause-small
push_value-requires-clause-small c =
    short_value c.args.number c.in-Some-form_at.form c.args.value.now (sym c.form_at.ensures.form ∙ c.in-Some-form_at.is) c.requires.valid
