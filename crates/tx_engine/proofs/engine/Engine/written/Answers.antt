use Rattle.tx_engine.proofs.Keeps.{kept_mark}
use Rattle.std.proofs.Common.{arith}
use Rattle.tx_engine.proofs.engine.Engine.written.Goals as goal

pub invariant_of-self : goal.invariant_of-self
invariant_of-self c = kept_mark _ _ _ _ _ _ _ _ c.self.invariant (omega arith)
