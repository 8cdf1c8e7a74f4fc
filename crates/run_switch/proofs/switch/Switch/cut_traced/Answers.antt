use Rattle.run_switch.proofs.Resting.{ready_cut}
use Rattle.run_switch.proofs.Rounds.{on_three}
use Rattle.std.proofs.Common.{◌∙◌}
use Rattle.run_switch.proofs.switch.Switch.cut_traced.Goals as goal

pub returns-clause-ready : goal.returns-clause-ready
returns-clause-ready g c = on_three c.cut_between.result (λ cuts rest queue. ready_cut _ _ _ cuts.cuts rest (queue ∙ c.requires.empty))
    c.cut_between.ensures.cuts c.cut_between.ensures.rest c.cut_between.ensures.queue
