use Rattle.std.proofs.Common.{◌∙◌, length, ap}
use Rattle.iso_dialect.proofs.FieldReads.{sixteen}
use Rattle.iso_dialect.proofs.bitmap.read_bitmap.Goals as goal

pub read_bits-requires-clause-digits : goal.read_bits-requires-clause-digits
read_bits-requires-clause-digits c = ap length c.as_slice.ensures ∙ sixteen c.args.coding _ c.args.bytes.now _ c.in_ok-rest.ensures
