use Rattle.std.proofs.Common.{refl}
use Rattle.sw_log.proofs.moment.moment_text.Goals as goal

pub returns : goal.returns
returns c = (c.date_of.result, c.date_of.ensures, rw (c.date_text-date.ensures, c.clock_text-time.ensures) refl)
