-- A session's take.
-- for: laws::turns_are_moves
use Rattle.std.proofs.Common.{◌≡◌, ℕ, ◌==◌, Bool, true, false, List, [], Option, Some, None, Result, Ok, Err, refl, sym, ◌∙◌, ap, subst}
use Rattle.std.specs.Prelude.{not, slice_get}
use Rattle.std.specs.declared.alloc.AllocError.{AllocError}
use Rattle.flow_model.specs.declared.flow.Flow.{Flow}
use Rattle.tx_machine.specs.Due.{due_of}
use Rattle.tx_machine.specs.Table.{TxState}
use Rattle.outcome_calls.specs.One.{FullReply}
use Rattle.outcome_calls.specs.Core as core
use Rattle.outcome_calls.specs.Core.{PlantDeed}
use Rattle.outcome_calls.specs.Plant as plant
use Rattle.outcome_calls.specs.Plant.{AbstractPlant, PlantFits, past, unfinished, whole}
use Rattle.outcome_calls.proofs.PlantMoves.{kept_busy, ran}
use Rattle.outcome_calls.proofs.Turns.{IsRunOf, one_small}
use Rattle.tx_history.specs.declared.event.Event.TheVariants.{Taken as TakenBy}
use Rattle.tx_history.specs.History.{held_of, holds, is_ended, queue, serves, state_of, unless_ended}
use Rattle.outcome_history.specs.Sessions.{head_of}
use Rattle.outcome_history.proofs.CallsAgree.{calls_agree}
use Rattle.outcome_history.proofs.ServedSessions.{idle_seen}
use Rattle.tx_engine.specs.World.{World, happened}
use Rattle.tx_plant.specs.declared.seat.Seat.{Seat}
use Rattle.tx_plant.specs.declared.turn.Outcome.{Outcome}
use Rattle.tx_plant.specs.declared.turn.Outcome.TheVariants as outcome
use Rattle.tx_plant.specs.Steps.{Moved}
use Rattle.tx_plant.specs.Core.{Core, Same, left, left_by, new_seat, newest_fate, seat_of}
use Rattle.tx_plant.specs.Turns.{Taken, Takes}
use Rattle.tx_plant.specs.Plant.{IsEngine, Seen, Whole}
use Rattle.outcome_plant.specs.Deeds.{deeds, kept_reply}
use Rattle.outcome_plant.specs.Mirrors.{Mirrors, StandsFor}
use Rattle.outcome_plant.proofs.Sameness.{recovering_there, serves_same, state_there}
use Rattle.outcome_plant.proofs.Growth.{Follows, grown, stayed, with_late}
use Rattle.outcome_plant.proofs.SeatReplies.{left_none, none_set}
use Rattle.tx_seats.proofs.SeatSets.{by_session, set_there}

-- whoever holds nothing serves nothing that is unfinished

ended_held : (f : Flow) (st : TxState) (id : ℕ) (b : Bool) → is_ended f st ≡ b → unless_ended f st id ≡ None → b ≡ true
ended_held f st id true e h = refl
ended_held f st id false e h = absurd (let some : unless_ended f st id ≡ Some id = rw e refl in cc)

pub none_unfinished : (w : World) (seat : ℕ → Option Seat) (j : Seen) (a : AbstractPlant) (s id : ℕ) → Mirrors w seat j a →
    holds w.flow w.start w.past s ≡ None → plant.serves w.flow a.start (past a) s ≡ Some id → unfinished w.flow (core.at w.flow a.start (whole w.flow a) id)
    ≡ false
none_unfinished w seat j a s id m none h =
    let served : serves w.flow w.start w.past s ≡ Some id = sym (serves_same w seat j a s m) ∙ h in
    let k = calls_agree w.flow w.start w.past s id m.engine.start.view.ordered m.engine.lawful.lawful served in
    let over : is_ended w.flow (state_of w.flow w.start w.past id) ≡ true =
    ended_held w.flow (state_of w.flow w.start w.past id) id (is_ended w.flow (state_of w.flow w.start w.past id)) refl
    (sym (ap (held_of w.flow w.start w.past) served) ∙ none) in
    ap (unfinished w.flow) (state_there w seat j a id m ∙ k.stands)
    ∙ (ap not (idle_seen w.flow k.state (due_of w.flow k.state.state)) ∙ ap not (ap (is_ended w.flow) k.same ∙ over))

-- so it keeps no reply
none_if : (o : Option FullReply) → ((x : FullReply) → o ≡ Some x → ⊥) → o ≡ None
none_if None h = refl
none_if (Some x) h = absurd (h x refl)

pub none_kept : (f : Flow) (a : AbstractPlant) (s : ℕ) → PlantFits f a →
    ((id : ℕ) → plant.serves f a.start (past a) s ≡ Some id → unfinished f (core.at f a.start (whole f a) id) ≡ false) → a.kept s ≡ None
none_kept f a s h idle = none_if (a.kept s) (λ x e. let u = h.2.up s x e in let busy = kept_busy f a h.0 s u.0 x h.1 u.2 in let free = idle u.0 u.1 in cc)

-- the take

taken_seats : (p q : Core) (s t : ℕ) (seat : Seat) (w to : World) → q ≡ left p s (newest_fate w) seat to → (s ≡ t → ⊥) →
    kept_reply (seat_of q t) ≡ kept_reply (seat_of p t)
taken_seats p q s t seat w to h other = ap (λ (c : Core). kept_reply (seat_of c t)) h
    ∙ ap kept_reply (set_there p.seats s t (left_by (newest_fate w) seat) other)

taken_here : (p q : Core) (s : ℕ) (seat : Seat) (w to : World) → q ≡ left p s (newest_fate w) seat to → seat.kept ≡ None → kept_reply (seat_of q s) ≡ None
taken_here p q s seat w to h none = ap (λ (c : Core). kept_reply (seat_of c s)) h ∙ none_set p.seats s (left_by (newest_fate w) seat) (left_none w seat none)

took : (p q : Whole) (a : AbstractPlant) (s n : ℕ) (m : List Moved) → StandsFor a p → IsEngine q.core.world → q.journal ≡ p.journal →
    Taken p.core s n m q.core → Follows p q m a
took p q a s n m h engine journal k =
    let w = p.core.world in
    let next : IsEngine (happened w (TakenBy s)) = subst IsEngine k.recorded.history engine in
    let acc = next.lawful.lawful.0 in
    let b : AbstractPlant = with_late a (plant.Taken s (head_of (slice_get (queue w.flow w.start w.past) 0))) in
    let idle : (id : ℕ) → plant.serves w.flow a.start (past a) s ≡ Some id → unfinished w.flow (core.at w.flow a.start (whole w.flow a) id) ≡ false =
    λ id e. none_unfinished w (seat_of p.core) p.journal a s id h acc.1 e in
    let run : IsRunOf w.flow [] a b = one_small w.flow (plant.Take s (head_of (slice_get (queue w.flow w.start w.past) 0))) [] a b
    (recovering_there w (seat_of p.core) p.journal a h ∙ acc.0, idle, refl) refl in
    let none : a.kept s ≡ None = none_kept w.flow a s h.fits idle in
    let there : Mirrors (happened w (TakenBy s)) (seat_of q.core) p.journal b =
    grown w (seat_of p.core) (seat_of q.core) p.journal a b (TakenBy s) h next refl refl refl refl
    (λ t. by_session s t (a.kept t ≡ kept_reply (seat_of q.core t))
    (λ here. subst (λ (t : ℕ). a.kept t ≡ kept_reply (seat_of q.core t)) here
    (none ∙ sym (taken_here p.core q.core s (new_seat (k.id, k.context)) q.core.world q.core.world k.leaves refl)))
    (λ there. h.kept t ∙ sym (taken_seats p.core q.core s t (new_seat (k.id, k.context)) q.core.world q.core.world k.leaves there))
    (s == t) refl)
    (ran w.flow run.turns a b h.fits run.run) in
    record {
      to = b;
      run = subst (λ (new : List PlantDeed). IsRunOf w.flow new a b) (ap (deeds w.flow) (sym k.began)) run;
      stands = subst (λ (j : Seen). Mirrors q.core.world (seat_of q.core) j b) (sym journal)
          (subst (λ (w : World). Mirrors w (seat_of q.core) p.journal b) (sym k.recorded.history) there);
      flow = ap (λ (w : World). w.flow) k.recorded.history;
    }

not_taken : (p q : Whole) (a : AbstractPlant) (m : List Moved) → StandsFor a p → q.journal ≡ p.journal → Same m p.core q.core → Follows p q m a
not_taken p q a m h journal k = stayed p q m a h k.0 (ap (λ (c : Core). c.world) k.1) (λ t. ap (λ (c : Core). kept_reply (seat_of c t)) (sym k.1)) journal

pub takes : (p q : Whole) (a : AbstractPlant) (s : ℕ) (m : List Moved) (r : Result Outcome AllocError) → StandsFor a p → IsEngine q.core.world →
    q.journal ≡ p.journal → Takes p.core s m r q.core → Follows p q m a
takes p q a s m (Ok (outcome.Accepted n)) h engine journal k = took p q a s n m h engine journal k
takes p q a s m (Ok (outcome.Refused e)) h engine journal k = not_taken p q a m h journal k.1
takes p q a s m (Err x) h engine journal k = not_taken p q a m h journal k
takes p q a s m (Ok outcome.Idle) h engine journal k = absurd k
takes p q a s m (Ok outcome.Unwritten) h engine journal k = absurd k
takes p q a s m (Ok (outcome.Held c)) h engine journal k = absurd k
takes p q a s m (Ok (outcome.Written n)) h engine journal k = absurd k
takes p q a s m (Ok (outcome.Restarted n)) h engine journal k = absurd k
takes p q a s m (Ok (outcome.Cut n)) h engine journal k = absurd k
