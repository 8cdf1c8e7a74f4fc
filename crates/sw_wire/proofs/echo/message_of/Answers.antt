use Rattle.sw_wire.proofs.Echoes.{code_fits, stamp_fits, stan_fits}
use Rattle.sw_wire.proofs.echo.message_of.Goals as goal

pub put-requires : goal.put-requires
put-requires c = stamp_fits c.args.stamp.now c.requires.stamp c.requires.stamp_digits

pub put-requires-2 : goal.put-requires-2
put-requires-2 c = stan_fits c.args.stan.now c.requires.stan c.requires.stan_digits

pub put-requires-3 : goal.put-requires-3
put-requires-3 c = code_fits
