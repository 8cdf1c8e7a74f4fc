use Rattle.run_switch.proofs.LegRounds.{together_of}
use Rattle.run_switch.proofs.Leading.{took_some}
use Rattle.run_switch.proofs.switch.Switch.run_leg.Goals as goal

pub returns-in-Ok-clause-together : goal.returns-in-Ok-clause-together
returns-in-Ok-clause-together g c =
    let run = c.in-Ok.ensures in
    (run.offered.given, run.offered.all, together_of _ _ _ _ _ _ _ c.args.self.answered _ _ _ run.drove run.grown run.offered run.settled)

pub returns-in-Err-clause-some : goal.returns-in-Err-clause-some
returns-in-Err-clause-some g c = took_some g.S.Store _ _ _ _ _ _ c.in-Err.ensures.some
