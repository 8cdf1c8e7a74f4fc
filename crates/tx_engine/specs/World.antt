-- What contracts see of an engine.
use Rattle.std.specs.Prelude.{◌≡◌, ℕ, ◌+◌, List, ◌∷◌, length}
use Rattle.flow_model.specs.declared.flow.Flow.{Flow}
use Rattle.tx_history.specs.declared.event.Event.{Event}
use Rattle.tx_history.specs.History.{Start}

-- the flow, the number of sessions, what the history began from, the accepted events, the newest first, how many
-- entries are written, and for how many offers memory is reserved, of which the history knows nothing
pub record World : Type 0 where
  pub flow : Flow
  pub sessions : ℕ
  pub start : Start
  pub past : List Event
  pub mark : ℕ
  pub reserved : ℕ

-- the engine with this event as its newest entry
abbrev pub happened : World → Event → World
happened w e = record w { past = e ∷ w.past }

-- the event became the history's newest entry, of this number
pub record Recorded (old : World) (e : Event) (number : ℕ) (new : World) : Type 0 where
  pub number_is : number ≡ length old.past + 1
  pub history : new ≡ happened old e
