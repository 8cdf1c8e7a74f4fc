-- What an opening refuses, and what it makes.
use Rattle.std.specs.Prelude.{◌≡◌, ⊤, ℕ, Bool, false, List, [], ◌∷◌, length, Option, Some, None, Result, Ok, Err, nat_lt, ◌||◌, if◌then◌else◌}
use Rattle.sw_base.specs.Refusals.{or_else, refused_if, first_of}
use Rattle.flow_model.specs.declared.flow.Flow.{Flow}
use Rattle.flow_model.specs.Places.{parts_of}
use Rattle.tx_history.specs.declared.event.Event.TheVariants.{Closed}
use Rattle.tx_history.specs.declared.event.Entry.{Entry}
use Rattle.tx_history.specs.declared.journal.JournalView.{JournalView}
use Rattle.tx_history.specs.declared.journal.Row.{Row}
use Rattle.tx_history.specs.History.{Start, number_of, to_tell}
use Rattle.tx_history.specs.Lives.{opened}
use Rattle.tx_engine.specs.declared.error.EngineError.{EngineError}
use Rattle.tx_engine.specs.declared.error.EngineError.TheVariants.{BadSessions, OutOfMemory, UnknownParticipant}
use Rattle.tx_engine.specs.World.{World}

-- the entry that closes a journalled transaction with nobody to notify
abbrev pub closing_entry : ℕ → ℕ → Entry
closing_entry number id =
    record {
      number = number;
      event = Closed id;
      change = record { next_id = None; row = Some (id, None); shelved = None; emptied = false; advice = None };
    }

-- what an engine begins from: a view, with nothing in the queue and no breakpoint
abbrev pub first_start : JournalView → Start
first_start j = record { view = j; queue = []; breaks = [] }

-- the engine after its opening: its history has the closing entries
abbrev pub opened_world : Flow → JournalView → ℕ → World
opened_world f j n = record { flow = f; sessions = n; start = first_start j; past = opened f (first_start j); mark = 0; reserved = 0 }

-- the first of these names that no participant of the flow has
abbrev pub unknown_in : Flow → ℕ → List (List ℕ) → Option EngineError
unknown_in f id [] = None
unknown_in f id (name ∷ names) = if nat_lt (number_of f name) (length (parts_of f)) then unknown_in f id names else Some (UnknownParticipant id name)

-- the same of the least id: its members in order, then the participant of `doing`
abbrev pub unknown_of : Flow → List (ℕ × Row) → Option EngineError
unknown_of f [] = None
unknown_of f (r ∷ rows) = or_else (unknown_in f r.0 (to_tell r.1 r.1.doing)) (unknown_of f rows)

-- whether this number of sessions is refused
abbrev pub are_bad_sessions : ℕ → Bool
are_bad_sessions n = nat_lt n 1 || nat_lt 16 n

-- why an opening is refused, memory aside
abbrev pub open_refusal : Flow → JournalView → ℕ → Option EngineError
open_refusal f j n = first_of (refused_if (are_bad_sessions n) BadSessions ∷ unknown_of f j.rows ∷ [])

-- the error is that refusal, or memory ran out: the name in a refusal needs some
abbrev pub IsOpenRefusal : Option EngineError → EngineError → Type 0
IsOpenRefusal refusal OutOfMemory = ⊤
IsOpenRefusal refusal e = refusal ≡ Some e

-- memory is taken only once the number of sessions is known to be good
abbrev pub IsAfterSessions : ℕ → EngineError → Type 0
IsAfterSessions n OutOfMemory = are_bad_sessions n ≡ false
IsAfterSessions n e = ⊤

-- the same of the answer of an opening
abbrev pub RefusesOpen : Option EngineError → Result (Unit {0}) EngineError → Type 0
RefusesOpen refusal (Ok u) = refusal ≡ None
RefusesOpen refusal (Err e) = IsOpenRefusal refusal e
