-- A take seats the session that took, unless the transaction ended at once.
-- for: laws::seats_are_held
use Rattle.std.proofs.Common.{◌≡◌, ◌≢◌, ◌<◌, ◌==◌, ℕ, Bool, true, false, List, ◌∷◌, length, get_or, slice_set, Option, Some, None, Result, Ok, Err, refl, sym}
use Rattle.std.proofs.Common.{◌∙◌, ap, subst, arith}
use Rattle.std.specs.Prelude.{if◌then◌else◌, nat_le}
use Rattle.std.specs.declared.alloc.AllocError.{AllocError}
use Rattle.std.proofs.lemmas.Bool.Decides.{nat_tests}
use Rattle.std.proofs.lemmas.List.{length-set}
use Rattle.sw_base.specs.Refusals.{or_else, refused_if}
use Rattle.sw_context.specs.Pairs.{Pairs}
use Rattle.flow_model.specs.declared.flow.Flow.{Flow}
use Rattle.tx_machine.specs.Table.{TxState}
use Rattle.tx_history.specs.declared.event.Event.{Event}
use Rattle.tx_history.specs.declared.event.Event.TheVariants.{Taken as TakenBy}
use Rattle.tx_history.specs.declared.journal.Row.{Row}
use Rattle.tx_history.specs.History.{Start, held_of, is_ended, next_id, or_taken, recovering, serves, state_of, taken}
use Rattle.tx_history.proofs.Rows.{as_row, row_unended}
use Rattle.tx_slots.specs.DueCalls.{asked}
use Rattle.tx_engine.specs.declared.error.EngineError.{EngineError}
use Rattle.tx_engine.specs.declared.error.EngineError.TheVariants.{NoSession}
use Rattle.tx_engine.specs.World.{World, happened}
use Rattle.tx_engine.specs.Calls.{held_id, next_of, take_refusal}
use Rattle.tx_engine.specs.Replies.{kind_of}
use Rattle.tx_engine.proofs.Keeps.{same_yes}
use Rattle.tx_plant.specs.declared.seat.Seat.{Seat}
use Rattle.tx_plant.specs.declared.turn.Outcome.{Outcome}
use Rattle.tx_plant.specs.declared.turn.Outcome.TheVariants as outcome
use Rattle.tx_plant.specs.Steps.{Moved}
use Rattle.tx_plant.specs.Core.{Core, fate_by, left, left_by, new_seat, newest_fate}
use Rattle.tx_plant.specs.Turns.{Taken, Takes}
use Rattle.tx_plant.specs.Plant.{IsEngine}
use Rattle.tx_seats.specs.Seated.{Seated, seat_id}
use Rattle.tx_seats.proofs.DueStands.{SameDue, still_asked, still_due}
use Rattle.tx_seats.proofs.SeatSets.{by_session, set_here, set_there}
use Rattle.tx_seats.proofs.SessionItems.{none_unfinished}
use Rattle.tx_seats.proofs.SessionsStand.{still_taken}

-- what the session holds afterwards

serves_taken : (b : Bool) (r t : Option ℕ) (id : ℕ) → r ≡ None → t ≡ Some id → (if b then or_taken r t else t) ≡ Some id
serves_taken true None t id none h = h
serves_taken true (Some k) t id none h = absurd (cc)
serves_taken false r t id none h = h

serves_new : (f : Flow) (v : Start) (past : List Event) (s : ℕ) → recovering f v past ≡ None → serves f v (TakenBy s ∷ past) s ≡ Some (next_id v past)
serves_new f v past s none = serves_taken (s == 0) (recovering f v (TakenBy s ∷ past)) (taken v (TakenBy s ∷ past) s) (next_id v past) none
    (ap (λ (b : Bool). if b then Some (next_id v past) else taken v past s) (same_yes s))

-- and the seat that it gets: none where the transaction ended at once
record Gets (w : World) (s id : ℕ) (o : Option Seat) : Type 0 where
  id_is : seat_id o ≡ held_id w s
  fresh : (l : Seat) → o ≡ Some l → l.kept ≡ None

same_seat : (x : ℕ × Pairs) (l : Seat) → Some (new_seat x) ≡ Some l → l.kept ≡ None
same_seat x l e = let same : new_seat x ≡ l = grind (arith, e) in sym (ap (λ (z : Seat). z.kept) same)

gets_by : (w : World) (s id : ℕ) (x : Pairs) (r : Row) (o : Option Seat) (b : Bool) → held_id w s ≡ (if b then None else Some id) →
    o ≡ left_by (fate_by (Some (id, if b then None else Some r)) None) (new_seat (id, x)) → Gets w s id o
gets_by w s id x r o true held is = record { id_is = ap seat_id is ∙ sym held; fresh = λ l e. absurd (cc) }
gets_by w s id x r o false held is = record { id_is = ap seat_id is ∙ sym held; fresh = λ l e. same_seat (id, x) l (sym is ∙ e) }

gets_new : (w : World) (s : ℕ) (x : Pairs) → recovering w.flow w.start w.past ≡ None →
    Gets (happened w (TakenBy s)) s (next_id w.start w.past) (left_by (newest_fate (happened w (TakenBy s))) (new_seat (next_id w.start w.past, x)))
gets_new w s x none =
    let to : World = happened w (TakenBy s) in
    let st : TxState = state_of to.flow to.start to.past (next_id w.start w.past) in
    gets_by to s (next_id w.start w.past) x (as_row to.flow st) (left_by (newest_fate (happened w (TakenBy s))) (new_seat (next_id w.start w.past, x)))
    (is_ended to.flow st)
    (ap (held_of to.flow to.start to.past) (serves_new w.flow w.start w.past s none))
    (ap (λ (o : Option Row). left_by (fate_by (Some (next_id w.start w.past, o)) None) (new_seat (next_id w.start w.past, x))) (row_unended to.flow st))

-- a session that may take is one of the engine's

known_if : (n s : ℕ) (b : Bool) (later : Option EngineError) → nat_le n s ≡ b → or_else (refused_if b NoSession) later ≡ None → s < n
known_if n s true later e h = absurd (cc)
known_if n s false later e h = grind (arith, nat_tests)

known_taker : (w : World) (s : ℕ) → take_refusal w s ≡ None → s < w.sessions
known_taker w s h = known_if w.sessions s (nat_le w.sessions s) _ refl h

taken_seated : (p : Core) (s : ℕ) (x : Pairs) → Seated p → IsEngine (happened p.world (TakenBy s)) → s < p.world.sessions
    → Seated (left p s (newest_fate (happened p.world (TakenBy s))) (new_seat (next_id p.world.start p.world.past, x)) (happened p.world (TakenBy s)))
taken_seated p s x h engine lt =
    let w = p.world in
    let to : World = happened w (TakenBy s) in
    let none : recovering w.flow w.start w.past ≡ None = engine.lawful.lawful.0.0 in
    let o : Option Seat = left_by (newest_fate (happened p.world (TakenBy s))) (new_seat (next_id p.world.start p.world.past, x)) in
    let g = gets_new w s x none in
    let long = h.places in
    let within : s < length p.seats = omega arith in
    let here : get_or (slice_set p.seats s o) s None ≡ o = set_here p.seats s o within in
    let same : (t : ℕ) → s ≢ t → SameDue w to t = (λ t d. still_due w (TakenBy s) t (still_taken w.flow w.start w.past s t h.engine.start.view.ordered d)) in
    record {
      engine = engine;
      sessions = h.sessions;
      places = length-set p.seats s o ∙ h.places;
      seats = λ t. by_session s t (seat_id (get_or (slice_set p.seats s o) t None) ≡ held_id to t)
          (λ e. subst (λ (t : ℕ). seat_id (get_or (slice_set p.seats s o) t None) ≡ held_id to t) e (ap seat_id here ∙ g.id_is))
          (λ d. ap seat_id (set_there p.seats s t o d) ∙ (h.seats t ∙ sym (same t d).held))
          (s == t) refl;
      replies = λ t l r e k. by_session s t (asked (kind_of r) (next_of to t) ≡ true)
          (λ z. absurd (let fresh = g.fresh l (sym here ∙ (ap (λ (i : ℕ). get_or (slice_set p.seats s o) i None) z ∙ e)) in cc))
          (λ d. still_asked w to t (kind_of r) (same t d) (h.replies t l r (sym (set_there p.seats s t o d) ∙ e) k))
          (s == t) refl;
      waits = λ id u d. absurd (let over = none_unfinished to.flow to.start to.past id u.row engine.start.view.ordered none u.there in let going =
          u.going in cc);
    }

took_seated : (p q : Core) (s n : ℕ) (m : List Moved) → Seated p → IsEngine q.world → Taken p s n m q → Seated q
took_seated p q s n m h engine k =
    let world = k.recorded.history in
    subst Seated (sym k.leaves)
    (subst (λ (z : World). Seated (left p s (newest_fate z) (new_seat (k.id, k.context)) z)) (sym world)
    (subst (λ (id : ℕ). Seated (left p s (newest_fate (happened p.world (TakenBy s))) (new_seat (id, k.context)) (happened p.world (TakenBy s)))) (sym k.id_is)
    (taken_seated p s k.context h (subst IsEngine world engine) (known_taker p.world s k.allowed))))

pub takes_seated : (p q : Core) (s : ℕ) (m : List Moved) (r : Result Outcome AllocError) → Seated p → IsEngine q.world → Takes p s m r q → Seated q
takes_seated p q s m (Ok (outcome.Accepted n)) h engine k = took_seated p q s n m h engine k
takes_seated p q s m (Ok (outcome.Refused e)) h engine k = subst Seated (sym k.1.1) h
takes_seated p q s m (Err x) h engine k = subst Seated (sym k.1) h
takes_seated p q s m (Ok outcome.Idle) h engine k = absurd k
takes_seated p q s m (Ok outcome.Unwritten) h engine k = absurd k
takes_seated p q s m (Ok (outcome.Held c)) h engine k = absurd k
takes_seated p q s m (Ok (outcome.Written n)) h engine k = absurd k
takes_seated p q s m (Ok (outcome.Restarted n)) h engine k = absurd k
takes_seated p q s m (Ok (outcome.Cut n)) h engine k = absurd k
