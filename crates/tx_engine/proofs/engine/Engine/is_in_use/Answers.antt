use Rattle.std.proofs.Common.{◌∙◌, ap, refl}
use Rattle.tx_engine.specs.World.{World}
use Rattle.tx_engine.specs.Cuts.{is_in_use}
use Rattle.tx_engine.proofs.Cuts.{slots_in_use}
use Rattle.tx_engine.proofs.engine.Engine.is_in_use.Goals as goal

pub returns : goal.returns
returns c = (rw c.as_slice.ensures.value at c.any_holding.ensures)
    ∙ (slots_in_use _ _ _ _ _ _ _ c.self.invariant refl ∙ ap (λ (w : World). is_in_use w) c.self.view_is)
