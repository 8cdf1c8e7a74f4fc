use Rattle.std.proofs.Common.{◌∙◌, sym}
use Rattle.iso_dialect.proofs.FormLengths.{short_text}
use Rattle.iso_dialect.proofs.field.read_field_text.Goals as goal

pub read_coded-requires-clause-small : goal.read_coded-requires-clause-small
read_coded-requires-clause-small c =
    short_text c.args.number c.args.form _ c.requires.form (sym c.fits_length.ensures ∙ c.if-not-fits_length.false)
