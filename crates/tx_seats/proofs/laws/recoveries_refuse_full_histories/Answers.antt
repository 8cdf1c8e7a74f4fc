use Rattle.sw_participant.specs.Chains.{rule_at}
use Rattle.tx_seats.proofs.SeatedTurns.{recovers_full}
use Rattle.tx_seats.proofs.laws.recoveries_refuse_full_histories.Goals as goal

pub returns : goal.returns
returns g c = λ types. recovers_full (rule_at g.R.Rules.rule types)
