use Rattle.iso_dialect.proofs.DecimalDigits.{decimals_writable}
use Rattle.iso_dialect.proofs.write_field.push_decimals.Goals as goal

pub push_coded-requires-clause-can : goal.push_coded-requires-clause-can
push_coded-requires-clause-can c = decimals_writable c.args.coding c.args.digits c.args.number c.requires.count c.requires.pad
