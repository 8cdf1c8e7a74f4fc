-- The call that is due to a transaction, as histories have it.
use Rattle.std.specs.Prelude.{◌≡◌, ℕ, Bool, List, Option, Some, None, nat_lt}
use Rattle.sw_participant.specs.declared.call.Act.TheVariants as act
use Rattle.sw_participant.specs.declared.call.Call.{Call}
use Rattle.flow_model.specs.declared.flow.Flow.{Flow}
use Rattle.tx_machine.specs.declared.values.Due.{Due}
use Rattle.tx_machine.specs.Due.{call_of, due_of}
use Rattle.outcome_calls.specs.States.{FullState}
use Rattle.outcome_calls.specs.Stations.{station_call}
use Rattle.outcome_calls.specs.Core.{at}
use Rattle.tx_history.specs.declared.event.Event.{Event}
use Rattle.tx_history.specs.History.{Start, restores, state_of}
use Rattle.outcome_history.specs.Looked.{id_view}
use Rattle.outcome_history.specs.Sessions.{id_events}

-- the `recover` call that comes before an outcome, or else the call that the table gives
abbrev pub call_or : ℕ → Bool → Due → Option (ℕ × Bool) → Option Call
call_or id recovering d (Some r) = Some (record { id = id; participant = r.0; act = act.Recover r.1 })
call_or id recovering d None = call_of id recovering d

-- the call that is due to the transaction, if one is
abbrev pub due_call : Flow → Start → List Event → ℕ → Option Call
due_call f v past id = call_or id (nat_lt id v.view.next_id) (due_of f (state_of f v past id)) (restores f v past id)

-- the transaction stands where it stands in the history, and the same call is due to it
pub record Calls (f : Flow) (v : Start) (past : List Event) (id : ℕ) : Type 0 where
  pub state : FullState
  pub stands : at f (id_view f v.view) (id_events f v past) id ≡ Some state
  pub same : state.state ≡ state_of f v past id
  pub call : station_call f id state (due_of f state.state) ≡ due_call f v past id
