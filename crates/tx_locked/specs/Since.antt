-- What is under the engine's lock in a run.
use Rattle.std.specs.Prelude.{◌≡◌, ℕ, List}
use Rattle.tx_plant.specs.Core.{Core}
use Rattle.tx_locked.specs.declared.station.MadeCall.{MadeCall}
use Rattle.tx_locked.specs.RunSteps.{RunStep, DoesAll, offers_of, given_of, calls_of}

-- The core went on from its start: what was got was offered, in order; the ledger counts the entries of sessions; and these
-- calls were made.
pub record Since (start now : Core) (got : List (List ℕ)) (total : ℕ) (made : List MadeCall) : Type 0 where
  pub steps : List RunStep
  pub does : DoesAll steps start now
  pub offers : offers_of steps ≡ got
  pub counts : given_of steps ≡ total
  pub calls : calls_of steps ≡ made

-- what contracts see of what is under the lock
pub record LockedSeen : Type 0 where
  pub core : Core
  pub got : List (List ℕ)
  pub total : ℕ
  pub made : List MadeCall

abbrev pub locked_seen : Core → List (List ℕ) → ℕ → List MadeCall → LockedSeen
locked_seen c got total made = record { core = c; got = got; total = total; made = made }
