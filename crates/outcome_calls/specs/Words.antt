-- The order of calls in plain words; a history that begins anew; calls added to others.
use Rattle.std.specs.Prelude.{◌≡◌, ℕ, Bool, true, false, List, [], ◌∷◌, ◌++◌, ◌||◌}
use Rattle.outcome_calls.specs.Trail.{Deed, Answered, Chose, Stopped, untold}
use Rattle.flow_model.specs.declared.flow.Flow.{Flow}
use Rattle.outcome_calls.specs.Core.{PlantDeed, AbstractCore, written, none_kept}
use Rattle.outcome_calls.specs.Plant.{AbstractPlant, PlantMove, PlantMoves}

-- whether there is a stop at which the Told entry of the place was not in the journal
abbrev pub has_untold : ℕ → List Deed → Bool
has_untold n [] = false
has_untold n (Stopped row ∷ t) = untold row n || has_untold n t
has_untold n (_ ∷ t) = has_untold n t

abbrev pub has_stop : List Deed → Bool
has_stop [] = false
has_stop (Stopped row ∷ t) = true
has_stop (_ ∷ t) = has_stop t

-- a preparation or a selection
abbrev pub is_open_call : Deed → Bool
is_open_call (Answered p b) = true
is_open_call (Chose p) = true
is_open_call _ = false

-- a history begins anew from what is written, with nothing unfinished
abbrev pub cut_of : Flow → AbstractCore → AbstractCore
cut_of f c = record { start = written f c; late = []; gone = []; kept = none_kept; calls = c.calls }

abbrev pub with_calls : AbstractPlant → List PlantDeed → AbstractPlant
with_calls p ms = record p { calls = ms }

-- the turn adds calls, whatever calls come before them
abbrev pub Adds : Flow → PlantMove → AbstractPlant → AbstractPlant → Type 0
Adds f t p q = (new : List PlantDeed) × (q.calls ≡ new ++ p.calls) × ((ms : List PlantDeed) → PlantMoves f t (with_calls p ms) (with_calls q (new ++ ms)))
