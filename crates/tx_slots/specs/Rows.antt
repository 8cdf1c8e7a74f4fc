-- Rows of the journal: what an entry makes of them, and the slots that they become again.
use Rattle.std.specs.Prelude.{◌≡◌, ℕ, ◌<◌, Bool, true, false, List, [], ◌∷◌, slice_get, Option, Some, None, nat_lt, not, ◌&&◌, if◌then◌else◌, length, filter}
use Rattle.std.specs.List.{All}
use Rattle.flow_model.specs.declared.flow.Flow.{Flow}
use Rattle.flow_model.specs.Places.{parts_of}
use Rattle.tx_machine.specs.declared.machine.Machine.{Machine}
use Rattle.tx_machine.specs.Contract.{IsSound, tx_state}
use Rattle.tx_history.specs.declared.event.Change.{Change}
use Rattle.tx_history.specs.declared.journal.Row.{Row}
use Rattle.tx_history.specs.History.{is_ended, number_of, reopened, to_tell, shelved}
use Rattle.tx_history.specs.Journal.{row, shelved_change}
use Rattle.tx_slots.specs.declared.slot.Slot.{Slot}
use Rattle.tx_slots.specs.declared.slot.Slot.TheVariants.{Free, Holding}
use Rattle.tx_slots.specs.declared.slot.Hold.{Hold}
use Rattle.tx_slots.specs.Slots.{slot_of}

-- the flow has every participant that is to be notified
abbrev pub AreKnown : Flow → List (ℕ × Row) → Type 0
AreKnown f rows = (k : ℕ) (r : ℕ × Row) → slice_get rows k ≡ Some r → All (λ n. number_of f n < length (parts_of f)) (to_tell r.1 r.1.doing)

-- the first of these transactions after an id with somebody to notify
abbrev pub next_row : Flow → List (ℕ × Row) → ℕ → Option (ℕ × Row)
next_row f [] id = None
next_row f (r ∷ rows) id = if nat_lt id r.0 && not (is_ended f (reopened f r.1)) then Some r else next_row f rows id

-- those of these transactions after an id with somebody to notify
abbrev pub later_rows : Flow → List (ℕ × Row) → ℕ → List (ℕ × Row)
later_rows f rows id = filter (λ (r : ℕ × Row). nat_lt id r.0 && not (is_ended f (reopened f r.1))) rows

-- a transaction of the journal before its first item
pub record IsReopened (f : Flow) (r : ℕ × Row) (h : Hold) : Type 0 where
  pub id_is : h.id ≡ r.0
  pub sound : IsSound f h.machine
  pub state : tx_state f h.machine ≡ reopened f r.1
  pub last : h.last ≡ 0
  pub let_go : h.let_go ≡ false

-- the slot of such a transaction, free if there is none
abbrev pub IsSlotOfRow : Flow → Option (ℕ × Row) → Slot → Type 0
IsSlotOfRow f None Free = Unit {0}
IsSlotOfRow f (Some r) (Holding h) = IsReopened f r h
IsSlotOfRow f _ _ = ⊥

-- the slot of session 0 when the transactions up to this id are over
abbrev pub IsNextSlot : Flow → List (ℕ × Row) → ℕ → Slot → Type 0
IsNextSlot f rows id x = IsSlotOfRow f (next_row f rows id) x

-- that slot (`true`), or the slot of the transaction `id` itself, with machine m after entry `number`
abbrev pub SlotBy : Bool → Flow → List (ℕ × Row) → ℕ → Machine → ℕ → Slot → Type 0
SlotBy true f rows id m number x = IsNextSlot f rows id x
SlotBy false f rows id m number x = x ≡ slot_of f m id number

-- the slot after an entry of the transaction: where a journalled one is over, the next one's
abbrev pub IsSlotAfter : Bool → Flow → List (ℕ × Row) → ℕ → Machine → ℕ → Slot → Type 0
IsSlotAfter recovering f rows id m number x = SlotBy (recovering && is_ended f (tx_state f m)) f rows id m number x

-- the change that an item makes, by the machine after it
abbrev pub item_change : Flow → ℕ → Machine → Option ((ℕ × ℕ) × Option (List ℕ)) → Change
item_change f id m advice = record {
  next_id = None;
  row = Some (id, row f (tx_state f m));
  shelved = shelved_change id (shelved f (tx_state f m) true);
  emptied = false;
  advice = advice;
}
