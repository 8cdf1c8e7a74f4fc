-- The call or the end that a state leads to.
use Rattle.std.specs.Prelude.{◌≡◌, ℕ, ◌+◌, Bool, true, not, ◌&&◌, List, [], ◌∷◌, Option, Some, None, length, nat_lt, if◌then◌else◌, slice_index}
use Rattle.sw_participant.specs.declared.call.Act.{Act}
use Rattle.sw_participant.specs.declared.call.Act.TheVariants as act
use Rattle.sw_participant.specs.declared.call.Call.{Call}
use Rattle.flow_model.specs.declared.flow.Flow.{Flow}
use Rattle.flow_model.specs.declared.flow.PlacedEntry.{PlacedEntry}
use Rattle.flow_asm.specs.Places.{call_step}
use Rattle.tx_machine.specs.declared.values.Phase.{Phase}
use Rattle.tx_machine.specs.declared.values.Phase.TheVariants.{Preparing, Aborting, Committing, Undoing}
use Rattle.tx_machine.specs.declared.values.Spot.{Spot}
use Rattle.tx_machine.specs.declared.values.Due.{Due}
use Rattle.tx_machine.specs.declared.values.Due.TheVariants as due
use Rattle.tx_machine.specs.Table.{TxState, Upcoming, Prepare, Select, is_open, prepares_next, selects_next}

-- the spot of a preparation: its step is the entry's call
abbrev pub spot_of : Flow → PlacedEntry → Spot
spot_of f s = record { step = call_step f s.group s.index; group = s.group; index = s.index; participant = s.participant }

-- the spot of a selection: a selector selects at the step after its call
abbrev pub select_spot : Flow → PlacedEntry → Spot
select_spot f s = record { step = call_step f s.group s.index + 1; group = s.group; index = s.index; participant = s.participant }

-- an abort with RETRY kept and tries left ends on the shelf
abbrev pub end_by : Bool → ℕ → Due
end_by retry tries = if retry && nat_lt 0 tries then due.Shelve else due.Done

-- what is due in this phase, with this still to come
abbrev pub due_at : Flow → TxState → Phase → List Upcoming → Due
due_at f s Preparing [] = due.Done
due_at f s Preparing (Prepare e ∷ tail) = due.Prepare (spot_of f e)
due_at f s Preparing (Select e ∷ tail) = due.Select (select_spot f e)
due_at f s Aborting [] = end_by s.retry s.tries
due_at f s Aborting (Prepare e ∷ tail) = due.PrepareForAbort (spot_of f e)
due_at f s Aborting (Select e ∷ tail) = due.Select (select_spot f e)
due_at f s Committing rest = if nat_lt s.told (length s.joined) then due.Commit (slice_index s.joined s.told) else due.Done
due_at f s Undoing rest = if nat_lt s.told (length s.joined) then due.Abort (slice_index s.joined s.told) else end_by s.retry s.tries

abbrev pub due_of : Flow → TxState → Due
due_of f s = due_at f s s.phase s.rest

-- the participant of a due call
abbrev pub participant_of : Due → Option ℕ
participant_of (due.Prepare s) = Some s.participant
participant_of (due.PrepareForAbort s) = Some s.participant
participant_of (due.Select s) = Some s.participant
participant_of (due.Commit p) = Some p
participant_of (due.Abort p) = Some p
participant_of due.Shelve = None
participant_of due.Done = None

-- the act of a due call; `recovering` says that the transaction comes from the journal
abbrev pub act_of : Bool → Due → Option Act
act_of recovering (due.Prepare s) = Some act.Prepare
act_of recovering (due.PrepareForAbort s) = Some act.PrepareForAbort
act_of recovering (due.Select s) = Some act.Select
act_of recovering (due.Commit p) = Some (act.Commit recovering)
act_of recovering (due.Abort p) = Some (act.Abort recovering)
act_of recovering due.Shelve = None
act_of recovering due.Done = None

-- the call of the transaction `id`, where there are a participant and an act
abbrev pub call_by : ℕ → Option ℕ → Option Act → Option Call
call_by id (Some p) (Some a) = Some (record { id = id; participant = p; act = a })
call_by id _ _ = None

-- a due call of the transaction `id`, as a participant is called
abbrev pub call_of : ℕ → Bool → Due → Option Call
call_of id recovering d = call_by id (participant_of d) (act_of recovering d)

-- the reply to a due call is due
abbrev pub IsReplyDue : Due → TxState → Type 0
IsReplyDue (due.Prepare s) st = (is_open st.phase && prepares_next st.rest) ≡ true
IsReplyDue (due.PrepareForAbort s) st = (is_open st.phase && prepares_next st.rest) ≡ true
IsReplyDue (due.Select s) st = (is_open st.phase && selects_next st.rest) ≡ true
IsReplyDue (due.Commit p) st = (not (is_open st.phase) && nat_lt st.told (length st.joined)) ≡ true
IsReplyDue (due.Abort p) st = (not (is_open st.phase) && nat_lt st.told (length st.joined)) ≡ true
IsReplyDue due.Shelve st = Unit {0}
IsReplyDue due.Done st = Unit {0}

-- the places of the entries to come
abbrev pub places_of : List Upcoming → List (ℕ × ℕ)
places_of [] = []
places_of (Prepare s ∷ tail) = (s.group, s.index) ∷ places_of tail
places_of (Select s ∷ tail) = places_of tail
