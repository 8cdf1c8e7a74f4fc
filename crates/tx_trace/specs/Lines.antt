-- What each entry of a history shows, and its line in either form. Lists of events have the newest first.
use Rattle.std.specs.Prelude.{ℕ, ◌+◌, Bool, ◌==◌, List, [], ◌∷◌, length, nat_lt, Option, Some, None, if◌then◌else◌}
use Rattle.flow_model.specs.declared.flow.Flow.{Flow}
use Rattle.tx_machine.specs.Due.{due_of}
use Rattle.tx_history.specs.declared.event.Event.{Event}
use Rattle.tx_history.specs.declared.event.Event.TheVariants.{Taken, Answered, Chose, Told, Recovered}
use Rattle.tx_history.specs.History.{Start, holds, next_id, restores, shelf, state_of}
use Rattle.tx_engine.specs.World.{World}
use Rattle.tx_trace.specs.declared.shown.Shown.{Shown}
use Rattle.tx_trace.specs.declared.shown.Shown.TheVariants.{Moved, Begun, Plain}
use Rattle.tx_trace.specs.Json.{shown_json}
use Rattle.tx_trace.specs.Trace.{Text, Point, moved_of, shown_text}

-- where a transaction stands, by its own items so far
abbrev pub point_at : Flow → Start → List Event → ℕ → Point
point_at f v past id = record { state = state_of f v past id; restores = restores f v past id }

-- whether a transaction comes from the journal that the history began from
abbrev pub is_journalled : Start → ℕ → Bool
is_journalled v id = nat_lt id v.view.next_id

-- an event on a transaction
abbrev pub tx_shown : Flow → Start → List Event → Event → ℕ → Shown
tx_shown f v past e id = Moved (moved_of f id (is_journalled v id) (point_at f v past id) (point_at f v (e ∷ past) id))

-- an event on the transaction that a session holds; no such event is accepted where it holds none
abbrev pub held_shown : Flow → Start → List Event → Event → Option ℕ → Shown
held_shown f v past e None = Plain 0
held_shown f v past e (Some id) = tx_shown f v past e id

-- what an event shows after those before it
abbrev pub shown_at : Flow → Start → List Event → Event → Shown
shown_at f v past (Taken s) = Begun (next_id v past) s (due_of f (state_of f v (Taken s ∷ past) (next_id v past)))
shown_at f v past (Answered s byte context) = held_shown f v past (Answered s byte context) (holds f v past s)
shown_at f v past (Chose s text) = held_shown f v past (Chose s text) (holds f v past s)
shown_at f v past (Told s advice) = held_shown f v past (Told s advice) (holds f v past s)
shown_at f v past (Recovered s context) = held_shown f v past (Recovered s context) (holds f v past s)
shown_at f v past e = Plain (length (shelf f v past))

-- its line, as text and as an object of JSON
abbrev pub line_text : Flow → Start → List Event → Event → Text
line_text f v past e = shown_text f (shown_at f v past e) e

abbrev pub json_text : Flow → Start → List Event → Event → Text
json_text f v past e = shown_json f (shown_at f v past e) e

-- what there is of the entry of this number
abbrev pub at_number : (List Event → Event → Text) → List Event → ℕ → Option Text
at_number what [] number = None
at_number what (e ∷ past) number = if length past + 1 == number then Some (what past e) else at_number what past number

-- the line of the entry of this number
abbrev pub line_of : Flow → Start → List Event → ℕ → Option Text
line_of f v past number = at_number (line_text f v) past number

-- the same of an engine's history
abbrev pub line_in : World → ℕ → Option Text
line_in w number = line_of w.flow w.start w.past number

-- the same as JSON
abbrev pub json_in : World → ℕ → Option Text
json_in w number = at_number (json_text w.flow w.start) w.past number
