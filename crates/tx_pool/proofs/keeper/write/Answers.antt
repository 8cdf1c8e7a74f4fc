use Rattle.std.proofs.Common.{inr}
use Rattle.tx_pool.proofs.keeper.write.Goals as goal

pub returns-in-Err-clause-refused : goal.returns-in-Err-clause-refused
returns-in-Err-clause-refused g c = inr (c.write.ensures.clean, λ clean fresh t h. c.write.ensures.stop clean fresh t h)
