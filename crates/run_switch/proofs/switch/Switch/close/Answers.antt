use Rattle.run_switch.proofs.Rounds.{on_three}
use Rattle.run_switch.proofs.Runs.{closed}
use Rattle.run_switch.proofs.Stops.{drains_all, on_err_of}
use Rattle.run_switch.proofs.switch.Switch.close.Goals as goal

pub returns-clause-closes : goal.returns-clause-closes
returns-clause-closes g c = on_three c.send_advices.result (λ sends rest emptied. closed _ _ _ _ _ _ _ _ _ _ c.in_ok-drain.ensures.drains sends rest
    (emptied c.in_ok-drain.ensures.drains.drains.emptied)) c.send_advices.ensures.sends c.send_advices.ensures.rest c.send_advices.ensures.emptied

pub returns-clause-stops : goal.returns-clause-stops
returns-clause-stops g c = on_err_of c.send_advices.result (drains_all _ _ _ _ c.in_ok-drain.ensures.drains.drains)
