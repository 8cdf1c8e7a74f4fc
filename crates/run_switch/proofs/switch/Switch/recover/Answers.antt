use Rattle.tx_seats.proofs.SeatedStops.{made_seated}
use Rattle.tx_seats.proofs.SeatedTurns.{turned_seated}
use Rattle.run_switch.proofs.Recoveries.{recovers}
use Rattle.run_switch.proofs.switch.Switch.recover.Goals as goal

pub returns-in-Ok : goal.returns-in-Ok
returns-in-Ok g c =
    let (turns, outcomes, own, (m, driven, led, counts), over) = c.in_ok-recover.ensures.recovers in
    let (k, second, then, after) = c.in-Ok.ensures.done in
    record {
      recovers = λ f n view j made begins. recovers turned_seated f n j view _ turns outcomes _ m k _ _ _ made (made_seated f n view j _ made) begins own
          driven over second;
    }
