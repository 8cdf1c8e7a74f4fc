use Rattle.outcome_calls.proofs.StationCalls.{made}
use Rattle.outcome_calls.proofs.laws.station_calls.Goals as goal

pub returns : goal.returns
returns c = made
