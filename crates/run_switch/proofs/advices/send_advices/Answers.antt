use Rattle.std.proofs.Common.{ap, map, ◌∙◌}
use Rattle.tx_history.specs.Journal.{advices}
use Rattle.tx_engine.specs.World.{World}
use Rattle.run_switch.specs.Stored.{plain}
use Rattle.run_switch.proofs.Sendings.{sends_these}
use Rattle.run_switch.proofs.advices.send_advices.Goals as goal

pub returns-clause-sends : goal.returns-clause-sends
returns-clause-sends g c =
    sends_these c.send_each.result _ _ _ _ _ _ _ (ap (map plain) c.deref.ensures.value
    ∙ (c.in_ok-list.ensures ∙ ap (λ (w : World). advices w.flow w.start w.past) c.engine.ensures)) c.send_each.ensures.sends
