-- The record of a call that was made elsewhere, and the step of its session that it is.
use Rattle.std.specs.Prelude.{◌≡◌, ℕ, ◌==◌, Bool, true, false, cond, not, is_none, ◌&&◌, [], ◌∷◌, Option, Some, None, Result, Ok}
use Rattle.sw_base.specs.Refusals.{refused_if, first_of}
use Rattle.sw_context.specs.Pairs.{Pairs}
use Rattle.sw_participant.specs.declared.call.Act.{Act}
use Rattle.sw_participant.specs.declared.call.Act.TheVariants.{Prepare, PrepareForAbort, Select, Commit, Abort, Recover}
use Rattle.sw_participant.specs.declared.call.Call.{Call}
use Rattle.sw_participant.specs.declared.call.Reply.{Reply}
use Rattle.tx_slots.specs.declared.next.Next.{Next}
use Rattle.tx_slots.specs.declared.next.Next.TheVariants as next
use Rattle.tx_slots.specs.DueCalls.{asks_for}
use Rattle.tx_engine.specs.declared.error.EngineError.{EngineError}
use Rattle.tx_engine.specs.declared.error.EngineError.TheVariants.{HistoryFull, NotDue}
use Rattle.tx_engine.specs.Calls.{answers, is_full, next_of, next_refusal}
use Rattle.tx_engine.specs.Replies.{kind_of}
use Rattle.tx_engine.specs.World.{Recorded}
use Rattle.tx_plant.specs.declared.seat.Seat.{Seat}
use Rattle.tx_plant.specs.Steps.{event_of}
use Rattle.tx_plant.specs.Core.{Core, Leaves, left, newest_fate, seat_of}

-- the seat of a transaction with this context
abbrev pub seat_with : ℕ → Pairs → Seat
seat_with id x = record { id = id; context = x; kept = None }

-- The call was due to the session, with this context; its reply, one of the call's kind, became an entry, and its
-- transaction went on with that context, or ended.
pub record Entered (p : Core) (s : ℕ) (call : Call) (reply : Reply) (x y : Pairs) (n : ℕ) (q : Core) : Type 0 where
  pub due : next_of p.world s ≡ next.Due call
  pub seated : seat_of p s ≡ Some (seat_with call.id x)
  pub suits : asks_for (kind_of reply) call.act ≡ true
  pub recorded : Recorded p.world (event_of s reply y) n q.world
  pub leaves : Leaves (newest_fate q.world) (left p s (newest_fate q.world) (seat_with call.id y) q.world) q

abbrev pub same_flag : Bool → Bool → Bool
same_flag a b = cond a b (not b)

abbrev pub same_act : Act → Act → Bool
same_act Prepare Prepare = true
same_act PrepareForAbort PrepareForAbort = true
same_act Select Select = true
same_act (Commit a) (Commit b) = same_flag a b
same_act (Abort a) (Abort b) = same_flag a b
same_act (Recover a) (Recover b) = same_flag a b
same_act _ _ = false

abbrev pub same_call : Call → Call → Bool
same_call a b = (a.id == b.id) && (a.participant == b.participant) && same_act a.act b.act

-- this call is due, by what the engine answers of the session
abbrev pub is_due : Result Next EngineError → Call → Bool
is_due (Ok (next.Due due)) call = same_call due call
is_due _ call = false

-- the seat is of this transaction, and keeps no reply
abbrev pub is_free_for : ℕ → Option Seat → Bool
is_free_for id None = false
is_free_for id (Some seat) = (seat.id == id) && is_none seat.kept

-- why a call that was made elsewhere is not recorded, in order, memory aside
abbrev pub enter_refusal : Core → ℕ → Call → Reply → Option EngineError
enter_refusal p s call reply =
    first_of (refused_if (not (asks_for (kind_of reply) call.act)) NotDue
    ∷ refused_if (not (is_due (answers (next_refusal p.world s) (next_of p.world s)) call)) NotDue
    ∷ refused_if (not (is_free_for call.id (seat_of p s))) NotDue
    ∷ refused_if (is_full p.world) HistoryFull ∷ [])
