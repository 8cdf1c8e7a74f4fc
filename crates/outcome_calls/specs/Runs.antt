-- What runs of small steps of a plant are made of.
use Rattle.std.specs.Prelude.{◌≡◌, ℕ, ◌≤◌, List, [], ◌++◌, length, Some, None}
use Rattle.flow_model.specs.declared.flow.Flow.{Flow}
use Rattle.outcome_calls.specs.Trail.{Deed}
use Rattle.outcome_calls.specs.One.{FullReply, Made}
use Rattle.outcome_calls.specs.States.{FullState, standing}
use Rattle.outcome_calls.specs.Core.{PlantDeed, at}
use Rattle.outcome_calls.specs.Plant.{SessionEvent, AbstractPlant, past, whole, serves, last_own}

-- nothing was done
abbrev pub Stays : List PlantDeed → AbstractPlant → AbstractPlant → Type 0
Stays new p q = (new ≡ []) × (q ≡ p)

-- the session's due call may be made: what was due is written, and no reply is kept
abbrev pub Callable : Flow → AbstractPlant → ℕ → ℕ → FullReply → Deed → Type 0
Callable f p s id x m = (st : FullState) × (serves f p.start (past p) s ≡ Some id) × (at f p.start (whole f p) id ≡ Some st)
    × (last_own p.start (whole f p) id ≤ p.mark) × (p.kept s ≡ None) × Made (standing f st).due x (standing f st) m

-- the oldest entries w are written, and the mark is moved within them
abbrev pub Wrote : ℕ → List PlantDeed → AbstractPlant → AbstractPlant → Type 0
Wrote n new p q = (l : List SessionEvent) × (w : List SessionEvent) × (p.late ≡ l ++ w) × (p.mark ≤ n) × (n ≤ length (w ++ p.gone)) × (new ≡ [])
    × (q ≡ record p { late = l; gone = w ++ p.gone; mark = n })
