-- What a tracer keeps of the entries that it has gone through.
use Rattle.std.specs.Prelude.{◌≡◌, ℕ, ◌+◌, ◌<◌, ◌≤◌, Bool, true, false, List, [], ◌∷◌, length, filter, nat_lt, Option, Some, None, Result, Ok}
use Rattle.std.specs.Prelude.{is_some, if◌then◌else◌, ◌&&◌}
use Rattle.std.specs.declared.alloc.AllocError.{AllocError}
use Rattle.std.specs.Option.{option_map_or}
use Rattle.std.specs.Ordering.{nat_cmp}
use Rattle.std.specs.BTreeMap.{BTreeMap, get}
use Rattle.std.specs.List.{All}
use Rattle.flow_model.specs.declared.flow.Flow.{Flow}
use Rattle.flow_model.specs.Places.{parts_of}
use Rattle.tx_machine.specs.declared.machine.Machine.{Machine}
use Rattle.tx_machine.specs.Contract.{IsSound, tx_state}
use Rattle.tx_machine.specs.Table.{TxState, is_due, next}
use Rattle.tx_machine.specs.Due.{due_of}
use Rattle.tx_history.specs.declared.event.Event.{Event}
use Rattle.tx_history.specs.declared.event.Event.TheVariants.{Answered, Chose, Told, Recovered, Taken}
use Rattle.tx_history.specs.declared.event.Change.{Change}
use Rattle.tx_history.specs.declared.event.Entry.{Entry}
use Rattle.tx_history.specs.declared.journal.Row.{Row}
use Rattle.tx_history.specs.Keys.{look}
use Rattle.tx_history.specs.History.{Start, first_unfinished, is_ended, is_restored, item_of, next_id, number_of, recovering, reopened_at, shelf, state_of}
use Rattle.tx_history.specs.History.{to_tell}
use Rattle.tx_history.specs.Journal.{IsLawful, change}
use Rattle.tx_history.specs.Views.{StartFits}
use Rattle.tx_engine.specs.World.{World}
use Rattle.tx_trace.specs.declared.tracer.Tracer.{Tracer}
use Rattle.tx_trace.specs.declared.tracer.Traced.{Traced}
use Rattle.tx_trace.specs.declared.shown.Shown.TheVariants.{Begun}
use Rattle.tx_trace.specs.Lines.{is_journalled, shown_at, tx_shown}

-- of events, the newest first, the oldest n
abbrev pub earlier : ℕ → List Event → List Event
earlier n [] = []
earlier n (e ∷ past) = if nat_lt n (length past + 1) then earlier n past else e ∷ past

-- the machine that is kept of a transaction
abbrev pub machine_at : BTreeMap ℕ Machine → ℕ → Option Machine
machine_at machines id = get nat_cmp machines id

-- after an id, the first transaction of the journal with somebody to notify, before anybody is notified of an outcome
abbrev pub next_recovered : Flow → List (ℕ × Row) → ℕ → Option ℕ
next_recovered f rows over = first_unfinished f (filter (λ (r : ℕ × Row). nat_lt over r.0) rows) (λ id. [])

-- the machine stands where the transaction does
pub record IsMachineOf (f : Flow) (v : Start) (past : List Event) (id : ℕ) (m : Machine) : Type 0 where
  pub below : id < next_id v past
  pub sound : IsSound f m
  pub state : tx_state f m ≡ state_of f v past id

-- what a tracer keeps agrees with the transactions after these events
pub record Tracks (f : Flow) (v : Start) (past : List Event) (t : Tracer) : Type 0 where
  pub kept : (id : ℕ) (m : Machine) → machine_at t.machines id ≡ Some m → IsMachineOf f v past id m
  -- one that is not finished and of which no machine is kept has had no item, and stands as its row says
  pub others : (id : ℕ) → machine_at t.machines id ≡ None → id < next_id v past
      → is_ended f (state_of f v past id) ≡ false → state_of f v past id ≡ reopened_at f (look id v.view.rows)
  pub shelved : t.shelved ≡ length (shelf f v past)
  pub restored : t.restored ≡ is_restored past
  pub over : recovering f v past ≡ next_recovered f v.view.rows t.over

-- a tracer has gone through the first entries of an engine
pub record Follows (w : World) (t : Tracer) : Type 0 where
  pub within : t.done ≤ length w.past
  pub tracks : Tracks w.flow w.start (earlier t.done w.past) t

-- how many entries a tracer has gone through
abbrev pub count_of : Tracer → ℕ
count_of t = t.done

-- how many lines a call gave: one; none where no entry is left or memory is refused
abbrev pub lines_given : {L : Type 0} → Result (Option L) AllocError → ℕ
lines_given (Ok (Some line)) = 1
lines_given _ = 0

-- the entry that comes next
pub record IsNext (w : World) (t : Tracer) (entry : Entry) : Type 0 where
  pub start : StartFits w.flow w.start
  pub lawful : IsLawful w.flow w.start (entry.event ∷ earlier t.done w.past)
  pub change : entry.change ≡ change w.flow w.start (entry.event ∷ earlier t.done w.past)
  pub tracks : Tracks w.flow w.start (earlier t.done w.past) t

-- an event that is given for a transaction under way
abbrev pub is_given : Event → Bool
is_given (Answered s byte context) = true
is_given (Chose s text) = true
is_given (Told s advice) = true
is_given (Recovered s context) = true
is_given _ = false

abbrev pub is_take : Event → Bool
is_take (Taken s) = true
is_take _ = false

-- where an event leads the state of the transaction that it is given for
abbrev pub led_by : Flow → TxState → Event → TxState
led_by f st e = option_map_or (next f st) (item_of e) st

-- the item that an event gives, if any, is due to a transaction in this state
abbrev pub gives_due : TxState → Event → Bool
gives_due st e = option_map_or (is_due st) (item_of e) true

-- the journalled transactions up to this id are over, when one has ended
abbrev pub over_then : Bool → ℕ → ℕ → ℕ
over_then ended id over = if ended then id else over

-- the transaction is under way
pub record IsUnderWay (f : Flow) (v : Start) (past : List Event) (id : ℕ) : Type 0 where
  pub below : id < next_id v past
  pub unfinished : is_ended f (state_of f v past id) ≡ false

-- what an event is to the transaction that it is given for, and to the others
pub record Concerns (f : Flow) (v : Start) (past : List Event) (e : Event) (id : ℕ) : Type 0 where
  pub shown : shown_at f v past e ≡ tx_shown f v past e id
  pub under_way : IsUnderWay f v past id
  pub due : gives_due (state_of f v past id) e ≡ true
  pub after : state_of f v (e ∷ past) id ≡ led_by f (state_of f v past id) e
  pub others : (j : ℕ) → (id ≡ j → ⊥) → state_of f v (e ∷ past) j ≡ state_of f v past j
  pub count : next_id v (e ∷ past) ≡ next_id v past
  pub recovers : (over : ℕ) → recovering f v past ≡ next_recovered f v.view.rows over
      → recovering f v (e ∷ past)
      ≡ next_recovered f v.view.rows (over_then (is_journalled v id && is_ended f (state_of f v (e ∷ past) id)) id over)

-- what is found of the transaction that an event is given for
abbrev pub IsSubject : Flow → Start → List Event → Event → Option ℕ → Type 0
IsSubject f v past e (Some id) = Concerns f v past e id
IsSubject f v past e None = is_given e ≡ false

-- the machine that is kept of a transaction after an event; none where it has ended
abbrev pub IsKept : Flow → Start → List Event → ℕ → Option Machine → Type 0
IsKept f v past id None = is_ended f (state_of f v past id) ≡ true
IsKept f v past id (Some m) = IsMachineOf f v past id m

-- the other transactions stand where they stood
abbrev pub OthersStay : Flow → Start → List Event → Event → (ℕ → Type 0) → Type 0
OthersStay f v past e Apart =
    (j : ℕ) → j < next_id v (e ∷ past) → Apart j → (j < next_id v past) × (state_of f v (e ∷ past) j ≡ state_of f v past j)

-- what an event changes of the machines that are kept
abbrev pub IsMove : Flow → Start → List Event → Event → Option (ℕ × Option Machine) → Type 0
IsMove f v past e None = OthersStay f v past e (λ j. Unit {0})
IsMove f v past e (Some move) = IsKept f v (e ∷ past) move.0 move.1 × OthersStay f v past e (λ j. move.0 ≡ j → ⊥)

-- the id up to which the journalled transactions are over after a move
abbrev pub over_after : ℕ → ℕ → Option (ℕ × Option Machine) → ℕ
over_after over first None = over
over_after over first (Some (id, Some m)) = over
over_after over first (Some (id, None)) = over_then (nat_lt id first) id over

-- what an entry shows, and what it moves
pub record IsTraced (f : Flow) (v : Start) (past : List Event) (e : Event) (t : Traced) : Type 0 where
  pub shown : t.shown ≡ shown_at f v past e
  pub move : IsMove f v past e t.moved
  pub more : next_id v past ≤ next_id v (e ∷ past)
  pub over : (over : ℕ) → recovering f v past ≡ next_recovered f v.view.rows over
      → recovering f v (e ∷ past) ≡ next_recovered f v.view.rows (over_after over v.view.next_id t.moved)

-- how many contexts are on the shelf after a change
abbrev pub shelved_after : ℕ → Change → ℕ
shelved_after count c = if c.emptied then 0 else if is_some c.shelved then count + 1 else count

-- the machine, if its transaction has not ended
abbrev pub IsLeft : Flow → Machine → Option Machine → Type 0
IsLeft f m None = is_ended f (tx_state f m) ≡ true
IsLeft f m (Some left) = (left ≡ m) × (is_ended f (tx_state f m) ≡ false)

-- the machine that is kept of a transaction that begins
abbrev pub IsBegunMove : Flow → ℕ → TxState → Option (ℕ × Option Machine) → Type 0
IsBegunMove f id st None = ⊥
IsBegunMove f id st (Some (n, None)) = (n ≡ id) × (is_ended f st ≡ true)
IsBegunMove f id st (Some (n, Some m)) = (n ≡ id) × IsSound f m × (tx_state f m ≡ st)

-- what a take shows, and what it moves
pub record IsBegun (f : Flow) (id s : ℕ) (st : TxState) (t : Traced) : Type 0 where
  pub shown : t.shown ≡ Begun id s (due_of f st)
  pub moves : IsBegunMove f id st t.moved

-- the flow has the participants that these rows name
abbrev pub AreFound : Flow → List (ℕ × Row) → Type 0
AreFound f rows =
    (id : ℕ) (r : Row) → look id rows ≡ Some r → All (λ n. number_of f n < length (parts_of f)) (to_tell r r.doing)

-- the map has this under the id, and everything else as before
pub record Puts (old new : BTreeMap ℕ Machine) (id : ℕ) (m : Option Machine) : Type 0 where
  pub here : machine_at new id ≡ m
  pub others : (j : ℕ) → (id ≡ j → ⊥) → machine_at new j ≡ machine_at old j

-- the same of what an event moves; where it moves nothing, all is as before
abbrev pub PutsMove : BTreeMap ℕ Machine → BTreeMap ℕ Machine → Option (ℕ × Option Machine) → Type 0
PutsMove old new None = (j : ℕ) → machine_at new j ≡ machine_at old j
PutsMove old new (Some move) = Puts old new move.0 move.1
