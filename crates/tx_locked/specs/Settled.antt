-- That nothing is left to do in a run.
use Rattle.std.specs.Prelude.{◌≡◌, false, [], length}
use Rattle.tx_engine.specs.World.{World}
use Rattle.tx_engine.specs.Calls.{waits}
use Rattle.tx_engine.specs.Cuts.{is_in_use}

-- nothing waits, no session holds a transaction, and all is written
pub record IsSettled (w : World) : Type 0 where
  pub empty : waits w ≡ []
  pub idle : is_in_use w ≡ false
  pub written : w.mark ≡ length w.past
