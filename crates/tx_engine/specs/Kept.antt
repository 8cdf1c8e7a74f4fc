-- What the running parts of an engine are, from its history.
use Rattle.std.specs.Prelude.{◌≡◌, ℕ, ◌≤◌, Bool, false, List, reverse, map, slice_get, Option, Some, None, is_some, length}
use Rattle.flow_model.specs.declared.flow.Flow.{Flow}
use Rattle.flow_model.specs.Places.{parts_of}
use Rattle.tx_machine.specs.Contract.{IsSound, tx_state}
use Rattle.tx_machine.specs.Table.{TxState}
use Rattle.tx_history.specs.declared.event.Event.{Event}
use Rattle.tx_history.specs.declared.event.Entry.{Entry}
use Rattle.tx_history.specs.declared.journal.WaitingContext.{WaitingContext}
use Rattle.tx_history.specs.History.{Start, is_ended, next_id, queue, shelf, unless_ended, last_of, is_let_go, has_break, is_restored, recovering}
use Rattle.tx_history.specs.Journal.{entries, advices, to_close}
use Rattle.tx_history.specs.Views.{FlowFits, StartFits, IsHistory}
use Rattle.tx_history.specs.Held.{session_state}
use Rattle.tx_slots.specs.declared.slot.Slot.{Slot}
use Rattle.tx_slots.specs.declared.slot.Slot.TheVariants.{Free, Holding}
use Rattle.tx_slots.specs.declared.slot.Hold.{Hold}
use Rattle.tx_slots.specs.Slots.{flag}
use Rattle.tx_engine.specs.World.{World}

-- the transaction that a session holds, by the one that it serves and that one's state
abbrev pub going_on : Flow → Option (ℕ × TxState) → Option ℕ
going_on f None = None
going_on f (Some who) = unless_ended f who.1 who.0

-- the session holds this transaction
pub record HoldIs (f : Flow) (v : Start) (past : List Event) (s : ℕ) (h : Hold) : Type 0 where
  pub serves : session_state f v past s ≡ Some (h.id, tx_state f h.machine)
  pub unfinished : is_ended f (tx_state f h.machine) ≡ false
  pub sound : IsSound f h.machine
  pub last : h.last ≡ last_of f v past h.id
  pub gone : h.let_go ≡ is_let_go past s

-- what the session holds, or that it holds nothing
abbrev pub SlotIs : Flow → Start → List Event → ℕ → Slot → Type 0
SlotIs f v past s Free = going_on f (session_state f v past s) ≡ None
SlotIs f v past s (Holding h) = HoldIs f v past s h

-- the events of a list of entries, the newest first
abbrev pub past_of : List Entry → List Event
past_of es = reverse (map (λ e. e.event) es)

-- what contracts see of an engine with these entries, the oldest first
abbrev pub world : Flow → ℕ → Start → List Entry → ℕ → ℕ → World
world f n v es mark reserved = record { flow = f; sessions = n; start = v; past = past_of es; mark = mark; reserved = reserved }

-- each participant's flag says whether it has a breakpoint
abbrev pub AreBreaks : Flow → Start → List Event → List Bool → Type 0
AreBreaks f v past breaks = (length breaks ≡ length (parts_of f)) × ((p : ℕ) → flag breaks p ≡ has_break v past p)

-- what an engine keeps besides its history
pub record Running : Type 0 where
  pub slots : List Slot
  pub queue : List WaitingContext
  pub shelf : List (ℕ × WaitingContext)
  pub advices : List ((ℕ × ℕ) × List ℕ)
  pub breaks : List Bool
  pub next_id : ℕ
  pub restored : Bool
  pub recovering : Bool

-- each running part is its function of the history
pub record Kept (w : World) (es : List Entry) (r : Running) : Type 0 where
  pub seats : 1 ≤ w.sessions
  pub flow : FlowFits w.flow
  pub start : StartFits w.flow w.start
  pub past : IsHistory w.flow w.start w.sessions w.past
  pub history : es ≡ entries w.flow w.start w.past
  pub sessions : (s : ℕ) (x : Slot) → slice_get r.slots s ≡ Some x → SlotIs w.flow w.start w.past s x
  pub queued : r.queue ≡ queue w.flow w.start w.past
  pub shelved : r.shelf ≡ shelf w.flow w.start w.past
  pub advised : r.advices ≡ advices w.flow w.start w.past
  pub stops : AreBreaks w.flow w.start w.past r.breaks
  pub numbered : r.next_id ≡ next_id w.start w.past
  pub renewed : r.restored ≡ is_restored w.past
  pub recovers : r.recovering ≡ is_some (recovering w.flow w.start w.past)
  -- the closing entries are there
  pub closed : length (to_close w.flow w.start.view.rows) ≤ length w.past
  pub spent : r.next_id ≤ 9223372036854775807
  pub marked : w.mark ≤ length w.past
