-- What is known of a run when all that its threads left has been compared.
use Rattle.std.specs.Prelude.{◌≡◌, ℕ, Bool, List, drop}
use Rattle.sw_context.specs.Pairs.{Pairs}
use Rattle.sw_participant.specs.Chains.{Rule}
use Rattle.tx_history.specs.declared.event.Entry.{Entry}
use Rattle.tx_plant.specs.Core.{Core}
use Rattle.tx_plant.specs.Plant.{IsEngine}
use Rattle.tx_locked.specs.declared.station.MadeCall.{MadeCall}
use Rattle.tx_locked.specs.AllStations.{AllLinked}
use Rattle.tx_pool.specs.Feeding.{HasFed}
use Rattle.tx_locked.specs.Receipts.{all_of}
use Rattle.tx_locked.specs.Settled.{IsSettled}
use Rattle.tx_locked.specs.Since.{Since}

-- The core went on from its start, and offered what was got; the calls of the stations, which lead from these objects and counts
-- to those, are the ones whose replies are its entries; all its entries are written, and these are the copies that were written.
pub record Ended (rule : ℕ → Rule) (os : List (List ℕ)) (cs : List ℕ) (start now : Core) (got : List (List ℕ)) (written : List Entry) (ps : List (List ℕ))
    (ds : List ℕ) : Type 0 where
  pub total : ℕ
  pub made : List MadeCall
  pub since : Since start now got total made
  pub linked : AllLinked rule os cs made ps ds
  pub copies : written ≡ drop start.world.mark (all_of now.world)
  pub settled : IsSettled now.world
  pub engine : IsEngine now.world

-- the core went on from its start, and offered all that the source gave in the run
pub record IsSettledSince (start now : Core) (before after : List Pairs) (ended : Bool) (made : List MadeCall) : Type 0 where
  pub got : List (List ℕ)
  pub total : ℕ
  pub since : Since start now got total made
  pub fed : HasFed before after ended got
