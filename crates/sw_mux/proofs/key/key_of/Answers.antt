use Rattle.iso_msg.proofs.FieldLengths.{exact_length, form-41, form-11}
use Rattle.sw_mux.proofs.key.key_of.Goals as goal

pub key_by-requires-clause-terminal : goal.key_by-requires-clause-terminal
key_by-requires-clause-terminal c = exact_length _ _ 41 _ form-41 c.in_ok-terminal.ensures.fits

pub key_by-requires-clause-stan : goal.key_by-requires-clause-stan
key_by-requires-clause-stan c = exact_length _ _ 11 _ form-11 c.in_ok-stan.ensures.fits
