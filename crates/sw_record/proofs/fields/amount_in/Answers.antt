use Rattle.std.proofs.Common.{arith}
use Rattle.iso_msg.proofs.FieldLengths.{exact_length, form-4}
use Rattle.sw_record.proofs.fields.amount_in.Goals as goal

pub amount_of-requires : goal.amount_of-requires
amount_of-requires c = omega (arith, exact_length _ _ 4 c.in-Some-get.digits.now form-4 c.in-Some-get.ensures.fits)
