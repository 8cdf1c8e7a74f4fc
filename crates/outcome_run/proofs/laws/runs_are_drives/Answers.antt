use Rattle.tx_seats.specs.Drives.{Done}
use Rattle.outcome_run.proofs.laws.runs_are_drives.Goals as goal

pub returns : goal.returns
returns g c = λ types os ps cs ds p q d. (Done d.turns d.outcomes, d.drives.0, d.drives.1)
