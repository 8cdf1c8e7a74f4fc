use Rattle.std.proofs.Common.{arith}
use Rattle.sw_parts.proofs.FieldLengths.{length-4, length-11}
use Rattle.sw_parts.proofs.stand_in.stand_in.Goals as goal

pub decide-requires-clause-amount : goal.decide-requires-clause-amount
decide-requires-clause-amount c = omega (arith, length-4 _ c.in-Some-get.ensures.fits)

pub decide-requires-clause-stan : goal.decide-requires-clause-stan
decide-requires-clause-stan c = length-11 _ c.in-Some-get-2.ensures.fits
