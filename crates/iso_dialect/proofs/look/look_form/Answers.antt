use Rattle.std.proofs.Common.{rules}
use Rattle.iso_dialect.proofs.TextLengths.{fixed_fits, octets_fit}
use Rattle.iso_dialect.proofs.look.look_form.Goals as goal

pub takes_form-requires : goal.takes_form-requires
takes_form-requires c = fixed_fits c.args.number c.args.form c.in-Fixed.content c.in-Fixed.length c.in_ok-value-in-Fixed.value.now c.requires.form
    c.in-Fixed.is c.in_ok-value-in-Fixed.ensures.len

pub takes_form-requires-in-Binary : goal.takes_form-requires-in-Binary
takes_form-requires-in-Binary c = octets_fit c.args.form c.in_ok-value-in-Binary.value c.in-Binary.is (search rules)
