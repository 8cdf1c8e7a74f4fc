-- What the running engine keeps of each session: whom it serves, and where that stands.
use Rattle.std.specs.Prelude.{ℕ, List, Option, Some, None}
use Rattle.flow_model.specs.declared.flow.Flow.{Flow}
use Rattle.tx_machine.specs.Table.{TxState}
use Rattle.tx_history.specs.declared.event.Event.{Event}
use Rattle.tx_history.specs.History.{Start, serves, state_of}

-- an id, if there is one, with the state of its transaction
abbrev pub state_of_served : Flow → Start → List Event → Option ℕ → Option (ℕ × TxState)
state_of_served f v past None = None
state_of_served f v past (Some id) = Some (id, state_of f v past id)

-- whom the session serves, and where that stands
abbrev pub session_state : Flow → Start → List Event → ℕ → Option (ℕ × TxState)
session_state f v past s = state_of_served f v past (serves f v past s)
