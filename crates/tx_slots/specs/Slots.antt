-- What a session holds, and what it is to do accordingly.
use Rattle.std.specs.Prelude.{ℕ, Bool, true, false, List, slice_get, Option, Some, None, nat_lt, not, ◌&&◌, if◌then◌else◌}
use Rattle.sw_participant.specs.declared.call.Call.{Call}
use Rattle.flow_model.specs.declared.flow.Flow.{Flow}
use Rattle.tx_machine.specs.declared.values.Due.{Due}
use Rattle.tx_machine.specs.declared.machine.Machine.{Machine}
use Rattle.tx_machine.specs.Contract.{IsSound, tx_state}
use Rattle.tx_machine.specs.Due.{due_of, participant_of}
use Rattle.tx_history.specs.History.{is_ended}
use Rattle.tx_slots.specs.declared.next.Next.{Next}
use Rattle.tx_slots.specs.declared.next.Next.TheVariants as next
use Rattle.tx_slots.specs.declared.next.At.{At}
use Rattle.tx_slots.specs.declared.slot.Slot.{Slot}
use Rattle.tx_slots.specs.declared.slot.Slot.TheVariants.{Free, Holding}
use Rattle.tx_slots.specs.declared.slot.Hold.{Hold}
use Rattle.tx_slots.specs.DueCalls.{restored_by, call_with, next_by, at_call, spot_of}

abbrev pub is_holding : Slot → Bool
is_holding Free = false
is_holding (Holding h) = true

-- the slot of a transaction after an entry of it: free where the transaction has ended
abbrev pub slot_of : Flow → Machine → ℕ → ℕ → Slot
slot_of f m id number = if is_ended f (tx_state f m) then Free else Holding (record { id = id; machine = m; last = number; let_go = false })

abbrev pub IsSoundSlot : Flow → Slot → Type 0
IsSoundSlot f Free = Unit {0}
IsSoundSlot f (Holding h) = IsSound f h.machine

abbrev pub flag_in : Option Bool → Bool
flag_in None = false
flag_in (Some b) = b

-- whether the flag of this number is there and set
abbrev pub flag : List Bool → ℕ → Bool
flag flags p = flag_in (slice_get flags p)

-- the same of the number of a call's participant, if there is one
abbrev pub flag_of : List Bool → Option ℕ → Bool
flag_of flags None = false
flag_of flags (Some p) = flag flags p

-- the `recover` call that is due, by whether the transaction is a journalled one and restored already
abbrev pub restoring : Flow → ℕ → Bool → ℕ → Due → Option (ℕ × Bool)
restoring f first restored id due = if nat_lt id first && not restored then restored_by f due else None

-- the call that is due to a session that holds this
abbrev pub hold_call : Flow → ℕ → Bool → Hold → Option Call
hold_call f first restored h =
    call_with h.id (nat_lt h.id first) (due_of f (tx_state f h.machine)) (restoring f first restored h.id (due_of f (tx_state f h.machine)))

-- what a session with this slot is to do
abbrev pub slot_next : Flow → ℕ → Bool → List Bool → ℕ → Slot → Next
slot_next f first restored breaks mark Free = next.Idle
slot_next f first restored breaks mark (Holding h) =
    next_by (nat_lt mark h.last) (flag_of breaks (participant_of (due_of f (tx_state f h.machine))) && not h.let_go) (hold_call f first restored h)

-- where the transaction of this slot stands
abbrev pub slot_at : Flow → ℕ → Bool → Slot → Option At
slot_at f first restored Free = None
slot_at f first restored (Holding h) = at_call (hold_call f first restored h) (tx_state f h.machine).phase (spot_of (due_of f (tx_state f h.machine))) h.id

-- whether a breakpoint holds the call that is due to a session with this slot
abbrev pub slot_held : Flow → List Bool → Slot → Bool
slot_held f breaks Free = false
slot_held f breaks (Holding h) = flag_of breaks (participant_of (due_of f (tx_state f h.machine))) && not h.let_go

abbrev pub slot_let_go : Slot → Slot
slot_let_go Free = Free
slot_let_go (Holding h) = Holding (record h { let_go = true })

-- the slot after an entry that leaves its transaction where it stands
abbrev pub touched : Slot → ℕ → Slot
touched Free number = Free
touched (Holding h) number = Holding (record h { last = number; let_go = false })
