use Rattle.std.proofs.Common.{◌∙◌, length, ap}
use Rattle.iso_dialect.proofs.FieldReads.{four}
use Rattle.iso_dialect.proofs.front.read_front.Goals as goal

pub mti_of-requires : goal.mti_of-requires
mti_of-requires c = ap length c.as_slice.ensures ∙ four c.mti.result _ c.args.bytes.now _ c.in_ok-rest.ensures
