-- The events of a history as the outcome law has them, and where its transactions stand.
use Rattle.std.specs.Prelude.{ℕ, Bool, true, false, List, [], ◌∷◌, Option, Some, None, slice_get, nat_lt, not, ◌&&◌, ◌||◌, if◌then◌else◌}
use Rattle.flow_model.specs.declared.flow.Flow.{Flow}
use Rattle.tx_machine.specs.declared.values.Item.{Item}
use Rattle.tx_machine.specs.declared.values.Item.TheVariants as item
use Rattle.tx_machine.specs.Bounds.{after_newest}
use Rattle.tx_machine.specs.Row.{Row as TxRow}
use Rattle.tx_machine.specs.Table.{TxState}
use Rattle.outcome_calls.specs.One.{Answer, Chosen, Advice, Restored}
use Rattle.outcome_calls.specs.States.{FullState, Head, own}
use Rattle.outcome_calls.specs.Core.{IdEvent}
use Rattle.outcome_calls.specs.Plant.{SessionEvent, Taken, Replied, Ack, Closing, Plain, by_ids}
use Rattle.tx_history.specs.declared.event.Event.{Event}
use Rattle.tx_history.specs.declared.event.Event.TheVariants as event
use Rattle.tx_history.specs.declared.journal.Row.{Row}
use Rattle.tx_history.specs.declared.journal.WaitingContext.{WaitingContext}
use Rattle.tx_history.specs.Keys.{look}
use Rattle.tx_history.specs.History.{Start, queue, reopened, own_items, serves, state_of, is_id, next_id}
use Rattle.tx_history.specs.Journal.{is_closed}
use Rattle.outcome_history.specs.Looked.{numbered, id_view}

-- tries and context of what waits
abbrev pub head_of : Option WaitingContext → Head
head_of None = (0, [])
head_of (Some w) = (w.tries, w.context)

-- an event after those of past
abbrev pub session_event : Flow → Start → List Event → Event → SessionEvent
session_event f v past (event.Taken s) = Taken s (head_of (slice_get (queue f v past) 0))
session_event f v past (event.Answered s b c) = Replied s (Answer b c)
session_event f v past (event.Chose s t) = Replied s (Chosen t)
session_event f v past (event.Told s a) = Replied s (Advice a)
session_event f v past (event.Recovered s c) = Replied s Restored
session_event f v past (event.Acked id place) = Ack id place
session_event f v past (event.Closed id) = Closing id
session_event f v past _ = Plain

-- the newest first
abbrev pub session_events : Flow → Start → List Event → List SessionEvent
session_events f v [] = []
session_events f v (e ∷ past) = session_event f v past e ∷ session_events f v past

-- the same by the ids that they speak of
abbrev pub id_events : Flow → Start → List Event → List IdEvent
id_events f v past = by_ids f (id_view f v.view) (session_events f v past)

-- where transactions stand

-- the row that a transaction was opened from, until a member was notified
abbrev pub opened_since : TxRow → List Item → Option TxRow
opened_since r [] = Some r
opened_since r (item.Answer b c ∷ xs) = opened_since r xs
opened_since r (item.Choice t ∷ xs) = opened_since r xs
opened_since r (item.Told a ∷ xs) = None

-- whether its context was restored since a member was last notified
abbrev pub restored : Flow → Start → List Event → ℕ → Bool
restored f v [] id = false
restored f v (event.Recovered s c ∷ past) id = is_id (serves f v past s) id || restored f v past id
restored f v (event.Told s a ∷ past) id = not (is_id (serves f v past s) id) && restored f v past id
restored f v (_ ∷ past) id = restored f v past id

-- a journalled transaction, closed or not, after its items
abbrev pub journalled : Flow → Option Row → Bool → List Item → Bool → Option FullState
journalled f None closed items back = None
journalled f (Some r) true items back = None
journalled f (Some r) false items back =
    Some (record { state = after_newest f (reopened f r) items; opened = opened_since (numbered f r) items; recovered = true; restored = back })

-- one of this life, taken or not yet
abbrev pub taken_at : Bool → TxState → Option FullState
taken_at true st = Some (own st)
taken_at false st = None

-- where a transaction stands, whether journalled or of this life
abbrev pub full_state : Flow → Start → List Event → ℕ → Option FullState
full_state f v past id =
    if nat_lt id v.view.next_id then journalled f (look id v.view.rows) (is_closed past id) (own_items f v past id) (restored f v past id)
    else taken_at (nat_lt id (next_id v past)) (state_of f v past id)

-- the state of a journalled transaction, as histories have it
abbrev pub recovered_state : Flow → Start → List Event → ℕ → Row → FullState
recovered_state f v past id r = record {
  state = state_of f v past id;
  opened = opened_since (numbered f r) (own_items f v past id);
  recovered =
      true;
  restored = restored f v past id;
}
