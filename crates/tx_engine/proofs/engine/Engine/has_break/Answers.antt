use Rattle.std.proofs.Common.{◌∙◌, ap}
use Rattle.tx_engine.specs.World.{World}
use Rattle.tx_engine.specs.Cuts.{is_broken}
use Rattle.tx_engine.proofs.Breaks.{flags_set}
use Rattle.tx_engine.proofs.engine.Engine.has_break.Goals as goal

pub returns : goal.returns
returns c = (rw c.as_slice.ensures.value at c.any_set.ensures) ∙ (flags_set _ _ _ _ _ _ _ c.self.invariant ∙ ap (λ (w : World). is_broken w) c.self.view_is)
