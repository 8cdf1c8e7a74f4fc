use Rattle.tx_seats.proofs.Reopening.{stop_refused}
use Rattle.tx_seats.proofs.laws.stops_are_not_refused.Goals as goal

pub returns : goal.returns
returns c = stop_refused
