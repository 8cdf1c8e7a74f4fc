-- Which calls the engine accepts, and what it answers.
use Rattle.std.specs.Prelude.{if◌then◌else◌}
use Rattle.std.specs.Prelude.{◌≡◌, ℕ, ◌+◌, ◌-◌, ◌<◌, ◌==◌, Bool, List, [], ◌∷◌, length, slice_get, option_map, Option, Some, None, is_some}
use Rattle.std.specs.Prelude.{nat_le, nat_lt, min}
use Rattle.std.specs.Prelude.{not, ◌||◌, Result, Ok, Err, filter}
use Rattle.std.specs.Map.{lookup}
use Rattle.sw_base.specs.Refusals.{refused_if, first_of}
use Rattle.sw_context.specs.Spelling.{bytes_of}
use Rattle.sw_participant.specs.declared.call.Call.{Call}
use Rattle.flow_model.specs.declared.flow.Flow.{Flow}
use Rattle.flow_model.specs.Places.{parts_of}
use Rattle.tx_machine.specs.Due.{due_of, places_of}
use Rattle.tx_machine.specs.declared.values.Item.{Item}
use Rattle.tx_machine.specs.Bounds.{after_newest}
use Rattle.tx_history.specs.declared.journal.Row.{Row}
use Rattle.tx_history.specs.declared.journal.WaitingContext.{WaitingContext}
use Rattle.tx_history.specs.History.{next_id, queue, state_of, holds, last_of, is_held_at, recovering, restores, own_items, is_ended, reopened, number_of}
use Rattle.tx_history.specs.History.{is_held}
use Rattle.tx_history.specs.Keys.{same_place}
use Rattle.tx_history.specs.Journal.{advices}
use Rattle.tx_engine.specs.declared.error.EngineError.{EngineError}
use Rattle.tx_engine.specs.declared.error.EngineError.TheVariants as error
use Rattle.tx_slots.specs.declared.next.At.{At}
use Rattle.tx_slots.specs.declared.next.Next.{Next}
use Rattle.tx_slots.specs.declared.next.Next.TheVariants as next
use Rattle.tx_slots.specs.declared.next.ReplyKind.{ReplyKind}
use Rattle.tx_slots.specs.DueCalls.{call_with, next_by, asked, spot_of, at_call}
use Rattle.tx_engine.specs.World.{World, Recorded}
use Rattle.tx_engine.specs.declared.engine.queue.TakenTx.{TakenTx}
use Rattle.tx_history.specs.declared.event.Event.TheVariants.{Taken}

-- a history has at most 1,048,576 entries
abbrev pub is_full : World → Bool
is_full w = nat_le 1048576 (length w.past)

-- no session has this number
abbrev pub no_session : World → ℕ → Bool
no_session w s = nat_le w.sessions s

-- the transaction that the session holds
abbrev pub held_id : World → ℕ → Option ℕ
held_id w s = holds w.flow w.start w.past s

-- the contexts in the queue
abbrev pub waits : World → List WaitingContext
waits w = queue w.flow w.start w.past

-- a journalled transaction's context is restored before each outcome of a participant that restores contexts
abbrev pub due_call : World → ℕ → Option Call
due_call w id = call_with id (nat_lt id w.start.view.next_id) (due_of w.flow (state_of w.flow w.start w.past id)) (restores w.flow w.start w.past id)

-- the transaction's last entry is above the mark
abbrev pub is_unwritten : World → ℕ → Bool
is_unwritten w id = nat_lt w.mark (last_of w.flow w.start w.past id)

-- what a session is to do that holds this transaction, if any
abbrev pub next_in : World → ℕ → Option ℕ → Next
next_in w s None = next.Idle
next_in w s (Some id) = next_by (is_unwritten w id) (is_held_at w.flow w.start w.past s (Some id)) (due_call w id)

-- what the session is to do
abbrev pub next_of : World → ℕ → Next
next_of w s = next_in w s (held_id w s)

-- refusals in order, out of memory aside

abbrev pub offer_refusal : World → Option EngineError
offer_refusal w = refused_if (is_full w) error.HistoryFull

abbrev pub take_refusal : World → ℕ → Option EngineError
take_refusal w s =
    first_of (refused_if (no_session w s) error.NoSession
    ∷ refused_if (is_some (recovering w.flow w.start w.past)) error.Recovering
    ∷ refused_if (is_some (held_id w s)) error.Busy
    ∷ refused_if (length (waits w) == 0) error.Empty
    ∷ refused_if (next_id w.start w.past == 9223372036854775807) error.IdsSpent
    ∷ refused_if (is_full w) error.HistoryFull ∷ [])

-- memory may be reserved for as many offers as the history has entries left
abbrev pub reserve_refusal : World → Option EngineError
reserve_refusal w = refused_if (nat_le 1048576 (length w.past + w.reserved)) error.HistoryFull

-- how many offers can be made in reserved memory before the history is full
abbrev pub spare_of : World → ℕ
spare_of w = min w.reserved (1048576 - length w.past)

abbrev pub with_reserved : World → ℕ → World
with_reserved w n = record w { reserved = n }

-- the queue's first, which the session may take
pub record IsFirst (w : World) (s : ℕ) (first : WaitingContext) : Type 0 where
  pub allowed : take_refusal w s ≡ None
  pub first_is : slice_get (waits w) 0 ≡ Some first

-- the session took the queue's first context, under the next id
pub record Takes (old : World) (s : ℕ) (t : TakenTx) (new : World) : Type 0 where
  pub recorded : Recorded old (Taken s) t.number new
  pub id_is : t.id ≡ next_id old.start old.past
  pub context_is : option_map (λ w. w.context) (slice_get (waits old) 0) ≡ Some (bytes_of t.context)

abbrev pub reply_refusal : ReplyKind → World → ℕ → Option EngineError
reply_refusal kind w s =
    first_of (refused_if (no_session w s) error.NoSession
    ∷ refused_if (not (asked kind (next_of w s))) error.NotDue
    ∷ refused_if (is_full w) error.HistoryFull ∷ [])

-- a participant of the flow has the name
abbrev pub is_participant : World → List ℕ → Bool
is_participant w name = nat_lt (number_of w.flow name) (length (parts_of w.flow))

abbrev pub break_refusal : World → List ℕ → Option EngineError
break_refusal w name =
    first_of (refused_if (not (is_participant w name)) error.NoParticipant
    ∷ refused_if (is_full w) error.HistoryFull ∷ [])

-- the participant of this name, whose breakpoint may change
pub record MayBreak (w : World) (name : List ℕ) (p : ℕ) : Type 0 where
  pub allowed : break_refusal w name ≡ None
  pub is_numbered : p ≡ number_of w.flow name
  pub there : p < length (parts_of w.flow)

-- whether a call is held does not depend on the mark
abbrev pub let_go_refusal : World → ℕ → Option EngineError
let_go_refusal w s =
    first_of (refused_if (no_session w s) error.NoSession
    ∷ refused_if (not (is_held w.flow w.start w.past s)) error.NotHeld
    ∷ refused_if (is_full w) error.HistoryFull ∷ [])

-- the advice under a member's place
abbrev pub advice_at : ℕ × ℕ → List ((ℕ × ℕ) × List ℕ) → Option (List ℕ)
advice_at place stored = lookup (same_place place) stored

abbrev pub has_advice : World → ℕ × ℕ → Bool
has_advice w place = is_some (advice_at place (advices w.flow w.start w.past))

abbrev pub ack_refusal : World → ℕ × ℕ → Option EngineError
ack_refusal w place =
    first_of (refused_if (not (has_advice w place)) error.NoAdvice
    ∷ refused_if (is_full w) error.HistoryFull ∷ [])

-- the mark moves up, to at most the history's length
abbrev pub mark_refusal : World → ℕ → Option EngineError
mark_refusal w n = refused_if (nat_lt n w.mark || nat_lt (length w.past) n) error.BadMark

-- a refused mark changes nothing
abbrev pub marked_unless : Option EngineError → World → ℕ → World
marked_unless None w n = record w { mark = n }
marked_unless (Some e) w n = w

-- the engine after a call that sets the mark
abbrev pub after_mark : World → ℕ → World
after_mark w n = marked_unless (mark_refusal w n) w n

-- the first refusal, or what is answered
abbrev pub answers : {A : Type 0} → Option EngineError → A → Result A EngineError
answers None x = Ok x
answers (Some e) x = Err e

abbrev pub next_refusal : World → ℕ → Option EngineError
next_refusal w s = refused_if (no_session w s) error.NoSession

-- the journalled transactions that are not finished
abbrev pub unfinished_in : Flow → (ℕ → List Item) → List (ℕ × Row) → List (ℕ × Row)
unfinished_in f items rows = filter (λ (r : ℕ × Row). not (is_ended f (after_newest f (reopened f r.1) (items r.0)))) rows

-- the places of the entries to come of this transaction, if there is one
abbrev pub rest_in : World → Option ℕ → List (ℕ × ℕ)
rest_in w None = []
rest_in w (Some id) = places_of (state_of w.flow w.start w.past id).rest

-- the places of the entries to come of the transaction that the session holds
abbrev pub rest_of : World → ℕ → List (ℕ × ℕ)
rest_of w s = if no_session w s then [] else rest_in w (held_id w s)

-- how many journalled transactions are not finished
abbrev pub unfinished : World → ℕ
unfinished w = length (unfinished_in w.flow (own_items w.flow w.start w.past) w.start.view.rows)

-- this transaction, if there is one, and its saved context
abbrev pub saved_in : World → Option ℕ → Option (ℕ × List ℕ)
saved_in w None = None
saved_in w (Some id) = Some (id, (state_of w.flow w.start w.past id).saved)

-- the transaction that the session holds, and its saved context
abbrev pub saved_of : World → ℕ → Option (ℕ × List ℕ)
saved_of w s = saved_in w (held_id w s)

-- where this transaction stands, if there is one, and its due call
abbrev pub at_in : World → Option ℕ → Option At
at_in w None = None
at_in w (Some id) = at_call (due_call w id) (state_of w.flow w.start w.past id).phase (spot_of (due_of w.flow (state_of w.flow w.start w.past id))) id

-- where the transaction stands that the session holds, and its due call
abbrev pub at_of : World → ℕ → Option At
at_of w s = if no_session w s then None else at_in w (held_id w s)
