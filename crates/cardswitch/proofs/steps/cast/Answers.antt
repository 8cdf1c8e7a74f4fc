use Rattle.cardswitch.proofs.Stepping.{switch_cast}
use Rattle.cardswitch.proofs.steps.cast.Goals as goal

pub returns-then-switch-clause-cast : goal.returns-then-switch-clause-cast
returns-then-switch-clause-cast c = switch_cast c.args.switch c.in_ok-simulated.field-0 c.if-switch.true c.in_ok-simulated.ensures.limit
    c.in_ok-simulated.ensures.stand_in c.in_ok-simulated.ensures.routes
