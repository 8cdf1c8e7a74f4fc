use Rattle.sw_participant.specs.Chains.{rule_at}
use Rattle.tx_seats.proofs.Recoveries.{recovery_drive}
use Rattle.tx_seats.proofs.laws.recoveries_are_drives.Goals as goal

pub returns : goal.returns
returns g c = λ types. recovery_drive (rule_at g.R.Rules.rule types)
