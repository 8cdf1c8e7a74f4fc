use Rattle.std.proofs.Common.{length, ap}
use Rattle.iso_dialect.proofs.TextLengths.{hex_fits}
use Rattle.iso_dialect.proofs.write_field.takes_value.Goals as goal

pub push_hex-requires : goal.push_hex-requires
push_hex-requires c = hex_fits c.args.form c.args.value.now c.new-text.result c.in-Binary.is (ap length c.new-text.ensures) c.requires
