use Rattle.std.proofs.Common.{arith}
use Rattle.sw_parts.proofs.FieldLengths.{length-2, length-41, length-90}
use Rattle.sw_parts.proofs.limits.original.Goals as goal

pub card_of-card-requires : goal.card_of-card-requires
card_of-card-requires c = length-2 _ c.in_ok-digits.ensures.fits

pub key_of-requires-clause-terminal : goal.key_of-requires-clause-terminal
key_of-requires-clause-terminal c = length-41 _ c.in_ok-terminal.ensures.fits

pub slice_bounds-stan-end : goal.slice_bounds-stan-end
slice_bounds-stan-end c = omega (arith, length-90 _ c.in_ok-original.ensures.fits)

pub slice_bounds-sent-end : goal.slice_bounds-sent-end
slice_bounds-sent-end c = omega (arith, length-90 _ c.in_ok-original.ensures.fits)
