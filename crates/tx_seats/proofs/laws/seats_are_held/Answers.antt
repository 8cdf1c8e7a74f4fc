use Rattle.tx_seats.proofs.SeatedStops.{made_seated}
use Rattle.tx_seats.proofs.SeatedTurns.{all_seated, turned_seated}
use Rattle.tx_seats.proofs.StepRefusals.{refused}
use Rattle.tx_seats.proofs.laws.seats_are_held.Goals as goal

pub returns : goal.returns
returns c = record { made = made_seated; turned = turned_seated; driven = all_seated; stepped = refused }
