-- What a list of accepted events means. The lists of events, and of a transaction's own items, have the newest first.
use Rattle.std.specs.Prelude.{ℕ, ◌+◌, ◌-◌, Bool, true, false, List, [], ◌∷◌, ◌++◌, length, drop, map, Option, Some, None, slice_get, nat_lt, ◌==◌, not, ◌&&◌}
use Rattle.std.specs.Prelude.{◌||◌, if◌then◌else◌}
use Rattle.std.specs.Option.{option_map_or}
use Rattle.flow_model.specs.declared.flow.Flow.{Flow}
use Rattle.flow_model.specs.declared.numbering.Part.{Part}
use Rattle.flow_model.specs.Places.{parts_of, number_in}
use Rattle.tx_machine.specs.declared.values.Phase.{Phase}
use Rattle.tx_machine.specs.declared.values.Phase.TheVariants.{Committing}
use Rattle.tx_machine.specs.declared.values.Due.{Due}
use Rattle.tx_machine.specs.declared.values.Due.TheVariants.{Commit, Abort, Shelve, Done}
use Rattle.tx_machine.specs.declared.values.Item.{Item}
use Rattle.tx_machine.specs.declared.values.Item.TheVariants.{Answer, Choice, Told as ToldOne}
use Rattle.tx_machine.specs.Table.{TxState, opening, reopening}
use Rattle.tx_machine.specs.Due.{due_of, participant_of}
use Rattle.tx_machine.specs.Bounds.{after_newest}
use Rattle.tx_history.specs.declared.event.Event.{Event}
use Rattle.tx_history.specs.declared.event.Event.TheVariants.{Offered, Taken, Answered, Chose, Told, Recovered, Released, Broke, Cleared, LetGo}
use Rattle.tx_history.specs.declared.journal.WaitingContext.{WaitingContext}
use Rattle.tx_history.specs.declared.journal.Row.{Row}
use Rattle.tx_history.specs.declared.journal.JournalView.{JournalView}
use Rattle.tx_history.specs.Keys.{gather, look}

-- what a history begins from: after an opening only a view, after a cut also a queue and breakpoints
pub record Start : Type 0 where
  pub view : JournalView
  pub queue : List WaitingContext
  pub breaks : List ℕ

-- a participant's name by its number; empty where the flow has none of this number
abbrev pub name_of : Flow → ℕ → List ℕ
name_of f p = option_map_or (λ (x : Part). x.name) (slice_get (parts_of f) p) []

-- its number by its name; how many there are where the flow has none of this name
abbrev pub number_of : Flow → List ℕ → ℕ
number_of f name = number_in (parts_of f) name

-- whether the participant of this number restores contexts
abbrev pub recovers : Flow → ℕ → Bool
recovers f p = option_map_or (λ (x : Part). x.kind.recovers) (slice_get (parts_of f) p) false

-- what an event is to the transaction that its session holds: the item that its machine is given
abbrev pub item_of : Event → Option Item
item_of (Answered s b c) = Some (Answer b c)
item_of (Chose s text) = Some (Choice text)
item_of (Told s advice) = Some (ToldOne advice)
item_of _ = None

-- one transaction

abbrev pub is_over : Due → Bool
is_over Shelve = true
is_over Done = true
is_over _ = false

abbrev pub is_ended : Flow → TxState → Bool
is_ended f st = is_over (due_of f st)

-- the participants to notify of a journalled transaction: one that may have been prepared is notified too
abbrev pub to_tell : Row → Option (List ℕ) → List (List ℕ)
to_tell r None = r.joined
to_tell r (Some name) = r.joined ++ name ∷ []

abbrev pub is_committing : Phase → Bool
is_committing Committing = true
is_committing _ = false

-- a journalled transaction is committed if it was committing, otherwise aborted, and never shelved
abbrev pub reopened : Flow → Row → TxState
reopened f r = reopening (is_committing r.phase) (map (number_of f) (to_tell r r.doing)) r.told r.tries r.context

-- the state where there is no such transaction: nothing to come, and nobody to notify
abbrev pub no_state : TxState
no_state = reopening false [] 0 0 []

-- where a journalled transaction begins, by its row, if it has one
abbrev pub reopened_at : Flow → Option Row → TxState
reopened_at f None = no_state
reopened_at f (Some r) = reopened f r

-- where a taken transaction begins, by what it waited with
abbrev pub begun : Flow → Option WaitingContext → TxState
begun f None = no_state
begun f (Some w) = opening f w.tries w.context

-- takes

-- how many takes there were
abbrev pub takes : List Event → ℕ
takes [] = 0
takes (Taken s ∷ past) = takes past + 1
takes (_ ∷ past) = takes past

-- the id of the next take
abbrev pub next_id : Start → List Event → ℕ
next_id v past = v.view.next_id + takes past

-- the id that the session took last
abbrev pub taken : Start → List Event → ℕ → Option ℕ
taken v [] s = None
taken v (Taken t ∷ past) s = if t == s then Some (next_id v past) else taken v past s
taken v (_ ∷ past) s = taken v past s

-- there is an id, and it is this one
abbrev pub is_id : Option ℕ → ℕ → Bool
is_id None id = false
is_id (Some k) id = k == id

-- the id of the first of these rows whose transaction has not ended, by the items of each id
abbrev pub first_unfinished : Flow → List (ℕ × Row) → (ℕ → List Item) → Option ℕ
first_unfinished f [] items = None
first_unfinished f (r ∷ rows) items = if is_ended f (after_newest f (reopened f r.1) (items r.0)) then first_unfinished f rows items else Some r.0

-- the first id, or the second where there is none
abbrev pub or_taken : Option ℕ → Option ℕ → Option ℕ
or_taken None o = o
or_taken (Some id) o = Some id

-- whom the session serves: session 0 the first journalled transaction that is unfinished, otherwise what it took last
abbrev pub serves_by : Flow → Start → List Event → ℕ → (ℕ → List Item) → Option ℕ
serves_by f v past s items = if s == 0 then or_taken (first_unfinished f v.view.rows items) (taken v past s) else taken v past s

-- a transaction's own items: those given by sessions that served it
abbrev pub own_items : Flow → Start → List Event → ℕ → List Item
own_items f v [] id = []
own_items f v (Answered s b c ∷ past) id = if is_id (serves_by f v past s (own_items f v past)) id then Answer b c ∷ own_items f v past id else own_items f
    v past id
own_items f v (Chose s t ∷ past) id = if is_id (serves_by f v past s (own_items f v past)) id then Choice t ∷ own_items f v past id else own_items f v past id
own_items f v (Told s a ∷ past) id = if is_id (serves_by f v past s (own_items f v past)) id then ToldOne a ∷ own_items f v past id else own_items f v past id
own_items f v (_ ∷ past) id = own_items f v past id

-- whom the session serves, by the own items of each transaction
abbrev pub serves : Flow → Start → List Event → ℕ → Option ℕ
serves f v past s = serves_by f v past s (own_items f v past)

-- the journalled transaction that is being recovered
abbrev pub recovering : Flow → Start → List Event → Option ℕ
recovering f v past = first_unfinished f v.view.rows (own_items f v past)

-- whether an item was given for it since the last release
abbrev pub is_fresh : Flow → Start → List Event → ℕ → Bool
is_fresh f v [] id = false
is_fresh f v (Released ∷ past) id = false
is_fresh f v (Answered s b c ∷ past) id = is_id (serves f v past s) id || is_fresh f v past id
is_fresh f v (Chose s t ∷ past) id = is_id (serves f v past s) id || is_fresh f v past id
is_fresh f v (Told s a ∷ past) id = is_id (serves f v past s) id || is_fresh f v past id
is_fresh f v (_ ∷ past) id = is_fresh f v past id

-- where a transaction begins, given what arrived so far
abbrev pub first : Flow → Start → List WaitingContext → ℕ → TxState
first f v arrived id = if nat_lt id v.view.next_id then reopened_at f (look id v.view.rows) else begun f (slice_get arrived (id - v.view.next_id))

-- where it stands after its own items, given what arrived so far
abbrev pub state_with : Flow → Start → List WaitingContext → List Event → ℕ → TxState
state_with f v arrived past id = after_newest f (first f v arrived id) (own_items f v past id)

-- queue and shelf

-- what the shelf keeps of a transaction that is to be shelved and had an item since the last release: one try fewer
abbrev pub shelved_in : Due → Bool → TxState → Option WaitingContext
shelved_in Shelve true st = Some (record { tries = st.tries - 1; context = st.saved })
shelved_in _ _ st = None

-- what the shelf keeps of a transaction in this state
abbrev pub shelved : Flow → TxState → Bool → Option WaitingContext
shelved f st fresh = shelved_in (due_of f st) fresh st

-- whether the shelf was released at any time
abbrev pub is_released : List Event → Bool
is_released [] = false
is_released (Released ∷ past) = true
is_released (_ ∷ past) = is_released past

-- what the shelf has under an id; below the view's next id it is what the view's shelf has there, until a release
abbrev pub shelved_at : Flow → Start → List WaitingContext → List Event → ℕ → Option WaitingContext
shelved_at f v arrived past id =
    if nat_lt id v.view.next_id then (if is_released past then None else look id v.view.shelf)
    else shelved f (state_with f v arrived past id) (is_fresh f v past id)

-- how many ids there are, from 1 on
abbrev pub ids : Start → List Event → ℕ
ids v past = next_id v past - 1

-- the whole shelf, ids rising, given what arrived so far
abbrev pub shelf_of : Flow → Start → List WaitingContext → List Event → List (ℕ × WaitingContext)
shelf_of f v arrived past = gather (shelved_at f v arrived past) 1 (ids v past)

-- the contexts offered and released, in order, after those that were there
abbrev pub arrivals : Flow → Start → List Event → List WaitingContext
arrivals f v [] = v.queue
arrivals f v (Offered c ∷ past) = arrivals f v past ++ record { tries = f.retries; context = c } ∷ []
arrivals f v (Released ∷ past) = arrivals f v past ++ map (λ item. item.1) (shelf_of f v (arrivals f v past) past)
arrivals f v (_ ∷ past) = arrivals f v past

-- the queue: what arrived, without the first ones, as many as there were takes
abbrev pub queue : Flow → Start → List Event → List WaitingContext
queue f v past = drop (takes past) (arrivals f v past)

-- where the transaction stands in the specified table, by its own items
abbrev pub state_of : Flow → Start → List Event → ℕ → TxState
state_of f v past id = state_with f v (arrivals f v past) past id

-- the aborted transactions that wait to be tried again, each under its id
abbrev pub shelf : Flow → Start → List Event → List (ℕ × WaitingContext)
shelf f v past = shelf_of f v (arrivals f v past) past

-- sessions

-- the id, while its transaction is unfinished in this state
abbrev pub unless_ended : Flow → TxState → ℕ → Option ℕ
unless_ended f st id = if is_ended f st then None else Some id

-- the same of the transaction that a session serves, if any
abbrev pub held_of : Flow → Start → List Event → Option ℕ → Option ℕ
held_of f v past None = None
held_of f v past (Some id) = unless_ended f (state_of f v past id) id

-- the transaction that the session holds: the one that it serves, while that is unfinished
abbrev pub holds : Flow → Start → List Event → ℕ → Option ℕ
holds f v past s = held_of f v past (serves f v past s)

-- whether the context was restored since the last outcome of which session 0 notified a member
abbrev pub is_restored : List Event → Bool
is_restored [] = false
is_restored (Recovered s c ∷ past) = true
is_restored (Told s a ∷ past) = not (s == 0) && is_restored past
is_restored (_ ∷ past) = is_restored past

-- the member to be notified, and whether to commit
abbrev pub outcome_of : Due → Option (ℕ × Bool)
outcome_of (Commit p) = Some (p, true)
outcome_of (Abort p) = Some (p, false)
outcome_of _ = None

-- the same, if that member's participant restores contexts
abbrev pub marked : Flow → Option (ℕ × Bool) → Option (ℕ × Bool)
marked f None = None
marked f (Some call) = if recovers f call.0 then Some call else None

-- the call `recover` that is due before an outcome of a journalled transaction: whom it goes to, and whether to commit
abbrev pub restores : Flow → Start → List Event → ℕ → Option (ℕ × Bool)
restores f v past id = if nat_lt id v.view.next_id && not (is_restored past) then marked f (outcome_of (due_of f (state_of f v past id))) else None

-- the events on a session's own transaction

abbrev pub is_among : ℕ → List ℕ → Bool
is_among p [] = false
is_among p (q ∷ qs) = (q == p) || is_among p qs

-- whether the participant has a breakpoint, set and not cleared since
abbrev pub has_break : Start → List Event → ℕ → Bool
has_break v [] p = is_among p v.breaks
has_break v (Broke q ∷ past) p = (q == p) || has_break v past p
has_break v (Cleared q ∷ past) p = not (q == p) && has_break v past p
has_break v (_ ∷ past) p = has_break v past p

-- whether the session was let go since its call became due
abbrev pub is_let_go : List Event → ℕ → Bool
is_let_go [] s = false
is_let_go (LetGo t ∷ past) s = (t == s) || is_let_go past s
is_let_go (Taken t ∷ past) s = not (t == s) && is_let_go past s
is_let_go (Answered t b c ∷ past) s = not (t == s) && is_let_go past s
is_let_go (Chose t x ∷ past) s = not (t == s) && is_let_go past s
is_let_go (Told t a ∷ past) s = not (t == s) && is_let_go past s
is_let_go (Recovered t c ∷ past) s = not (t == s) && is_let_go past s
is_let_go (_ ∷ past) s = is_let_go past s

-- whether the participant of a due call, if there is one, has a breakpoint
abbrev pub on_break : Start → List Event → Option ℕ → Bool
on_break v past None = false
on_break v past (Some p) = has_break v past p

-- whether the session's due call is held, by the id of what it holds
abbrev pub is_held_at : Flow → Start → List Event → ℕ → Option ℕ → Bool
is_held_at f v past s None = false
is_held_at f v past s (Some id) = on_break v past (participant_of (due_of f (state_of f v past id))) && not (is_let_go past s)

-- whether the call that is due to the session is held
abbrev pub is_held : Flow → Start → List Event → ℕ → Bool
is_held f v past s = is_held_at f v past s (holds f v past s)

-- the number of the transaction's last entry, its take or a reply of a session that served it; 0 if it has none. A recovered one has no take.
abbrev pub last_of : Flow → Start → List Event → ℕ → ℕ
last_of f v [] id = 0
last_of f v (Taken s ∷ past) id = if next_id v past == id then length past + 1 else last_of f v past id
last_of f v (Answered s b c ∷ past) id = if is_id (serves f v past s) id then length past + 1 else last_of f v past id
last_of f v (Chose s t ∷ past) id = if is_id (serves f v past s) id then length past + 1 else last_of f v past id
last_of f v (Told s a ∷ past) id = if is_id (serves f v past s) id then length past + 1 else last_of f v past id
last_of f v (Recovered s c ∷ past) id = if is_id (serves f v past s) id then length past + 1 else last_of f v past id
last_of f v (_ ∷ past) id = last_of f v past id

-- advices

-- a transaction's id with the place of the member that it notifies next
abbrev pub place_in : Flow → Start → List Event → Option ℕ → Option (ℕ × ℕ)
place_in f v past None = None
place_in f v past (Some id) = Some (id, (state_of f v past id).told)

-- the transaction and the place of the member that the session notifies
abbrev pub advice_place : Flow → Start → List Event → ℕ → Option (ℕ × ℕ)
advice_place f v past s = place_in f v past (serves f v past s)

-- what a told puts among the advices under this place: nothing where it gave none
abbrev pub put_advice : Option (ℕ × ℕ) → Option (List ℕ) → Option ((ℕ × ℕ) × Option (List ℕ))
put_advice None a = None
put_advice (Some key) None = None
put_advice (Some key) (Some a) = Some (key, Some a)
