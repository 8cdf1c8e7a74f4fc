use Rattle.std.proofs.Common.{arith}
use Rattle.sw_parts.proofs.FieldLengths.{length-2, length-4, length-41, length-11, length-7}
use Rattle.sw_parts.proofs.limits.asked.Goals as goal

pub card_of-card-requires : goal.card_of-card-requires
card_of-card-requires c = length-2 _ c.in_ok-digits.ensures.fits

pub key_of-key-requires-clause-terminal : goal.key_of-key-requires-clause-terminal
key_of-key-requires-clause-terminal c = length-41 _ c.in_ok-terminal.ensures.fits

pub key_of-key-requires-clause-stan : goal.key_of-key-requires-clause-stan
key_of-key-requires-clause-stan c = length-11 _ c.in_ok-stan.ensures.fits

pub key_of-key-requires-clause-sent : goal.key_of-key-requires-clause-sent
key_of-key-requires-clause-sent c = length-7 _ c.in_ok-sent.ensures.fits

pub amount_of-requires : goal.amount_of-requires
amount_of-requires c = omega (arith, length-4 _ c.in_ok-amount.ensures.fits)
