-- The call that is due to a transaction, and what a session is to do accordingly.
use Rattle.std.specs.Prelude.{ℕ, Bool, true, false, Option, Some, None}
use Rattle.sw_participant.specs.declared.call.Act.{Act}
use Rattle.sw_participant.specs.declared.call.Act.TheVariants as act
use Rattle.sw_participant.specs.declared.call.Call.{Call}
use Rattle.flow_model.specs.declared.flow.Flow.{Flow}
use Rattle.tx_machine.specs.declared.values.Due.{Due}
use Rattle.tx_machine.specs.declared.values.Due.TheVariants as due
use Rattle.tx_machine.specs.declared.values.Phase.{Phase}
use Rattle.tx_machine.specs.declared.values.Spot.{Spot}
use Rattle.tx_machine.specs.Due.{call_of}
use Rattle.tx_history.specs.History.{marked, outcome_of}
use Rattle.tx_slots.specs.declared.next.At.{At}
use Rattle.tx_slots.specs.declared.next.Next.{Next}
use Rattle.tx_slots.specs.declared.next.Next.TheVariants as next
use Rattle.tx_slots.specs.declared.next.ReplyKind.{ReplyKind}
use Rattle.tx_slots.specs.declared.next.ReplyKind.TheVariants as kind

-- the `recover` call before an outcome
abbrev pub restored_by : Flow → Due → Option (ℕ × Bool)
restored_by f d = marked f (outcome_of d)

-- the call that is due: this `recover` call, or else the one that the table gives
abbrev pub call_with : ℕ → Bool → Due → Option (ℕ × Bool) → Option Call
call_with id recovering d (Some r) = Some (record { id = id; participant = r.0; act = act.Recover r.1 })
call_with id recovering d None = call_of id recovering d

-- what a session is to do, by whether what was due before is unwritten, whether the call is held, and the call
abbrev pub next_by : Bool → Bool → Option Call → Next
next_by unwritten held None = next.Idle
next_by true held (Some call) = next.Unwritten
next_by false true (Some call) = next.Held call
next_by false false (Some call) = next.Due call

-- whether a reply of this kind is one to a call of this act
abbrev pub asks_for : ReplyKind → Act → Bool
asks_for kind.Answer act.Prepare = true
asks_for kind.Answer act.PrepareForAbort = true
asks_for kind.Choice act.Select = true
asks_for kind.Told (act.Commit recovering) = true
asks_for kind.Told (act.Abort recovering) = true
asks_for kind.Recovered (act.Recover commit) = true
asks_for _ _ = false

-- a call whose reply is of the kind is due, held or not
abbrev pub asked : ReplyKind → Next → Bool
asked kind (next.Held call) = asks_for kind call.act
asked kind (next.Due call) = asks_for kind call.act
asked kind next.Idle = false
asked kind next.Unwritten = false

-- the entry whose call is due; none while members are notified
abbrev pub spot_of : Due → Option Spot
spot_of (due.Prepare s) = Some s
spot_of (due.PrepareForAbort s) = Some s
spot_of (due.Select s) = Some s
spot_of (due.Commit p) = None
spot_of (due.Abort p) = None
spot_of due.Shelve = None
spot_of due.Done = None

-- where a transaction stands, by its due call: none if none is due
abbrev pub at_call : Option Call → Phase → Option Spot → ℕ → Option At
at_call None phase spot id = None
at_call (Some call) phase spot id = Some (record { id = id; phase = phase; call = call; spot = spot })
