use Rattle.std.proofs.Common.{◌∙◌, sym}
use Rattle.iso_dialect.proofs.TextLengths.{short_value}
use Rattle.iso_dialect.proofs.write_field.takes_field.Goals as goal

pub takes_form-requires : goal.takes_form-requires
takes_form-requires c = short_value c.args.number c.in-Some.form c.args.value.now (sym c.form_at.ensures.form ∙ c.in-Some.is) c.requires
