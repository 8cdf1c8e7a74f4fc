use Rattle.std.proofs.Common.{length, ap, arith}
use Rattle.iso_dialect.proofs.FieldReads.{few}
use Rattle.iso_dialect.proofs.field.read_digits.Goals as goal

pub decimal-requires : goal.decimal-requires
decimal-requires c = omega (arith, ap length c.as_slice.ensures, few c.args.coding c.args.digits _ c.args.bytes.now _ c.requires c.in_ok-rest.ensures)
