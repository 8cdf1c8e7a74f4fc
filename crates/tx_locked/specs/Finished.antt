-- The transactions that entries ended by done, and the contexts that these ended with.
use Rattle.std.specs.Prelude.{◌≡◌, ⊤, ℕ, List, [], ◌∷◌, ◌++◌, Option, Some, None}
use Rattle.tx_history.specs.declared.event.Entry.{Entry}
use Rattle.tx_history.specs.declared.journal.Row.{Row}
use Rattle.tx_history.specs.declared.journal.WaitingContext.{WaitingContext}
use Rattle.tx_plant.specs.Core.{Core, find}
use Rattle.tx_locked.specs.declared.finished.Finished.{Finished}
use Rattle.tx_locked.specs.declared.station.MadeCall.{MadeCall}
use Rattle.tx_locked.specs.Since.{Since}

-- the transaction whose row is dropped, unless its context goes on the shelf
abbrev pub finished_by : Option (ℕ × Option Row) → Option (ℕ × WaitingContext) → List ℕ
finished_by (Some (id, None)) None = id ∷ []
finished_by _ _ = []

-- the ids of the transactions that these entries ended by done, in order
abbrev pub finished_in : List Entry → List ℕ
finished_in [] = []
finished_in (e ∷ es) = finished_by e.change.row e.change.shelved ++ finished_in es

-- at a moment since a run began the transaction had ended with its context
pub record WasKept (start : Core) (f : Finished) : Type 0 where
  pub now : Core
  pub got : List (List ℕ)
  pub total : ℕ
  pub made : List MadeCall
  pub since : Since start now got total made
  pub kept : find f.id now.ended ≡ Some f.context

-- so had each of these
abbrev pub WereKept : Core → List Finished → Type 0
WereKept start [] = ⊤
WereKept start (f ∷ fs) = WasKept start f × WereKept start fs

-- each ended with its context, which is kept
abbrev pub AreKept : Core → List Finished → Type 0
AreKept p [] = ⊤
AreKept p (f ∷ fs) = (find f.id p.ended ≡ Some f.context) × AreKept p fs
