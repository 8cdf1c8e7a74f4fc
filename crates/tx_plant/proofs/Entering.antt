-- The record of a call that was made elsewhere.
-- for: enter::enter_seated, running::Running::enter
use Rattle.std.proofs.Common.{◌≡◌, ℕ, ◌<◌, Bool, true, false, Result, IfOk, OnErr, List, [], ◌∷◌, length, get_or, slice_set, Option, Some, None, Ok, Err, refl}
use Rattle.std.proofs.Common.{sym, ap, subst, ◌∙◌, inr}
use Rattle.std.specs.Prelude.{is_none, is_some, not}
use Rattle.sw_context.specs.Pairs.{Pairs}
use Rattle.sw_participant.specs.declared.call.Call.{Call}
use Rattle.sw_participant.specs.declared.call.Reply.{Reply}
use Rattle.sw_participant.specs.Chains.{Called, outcome_place}
use Rattle.tx_slots.specs.declared.next.Next.TheVariants as next
use Rattle.tx_slots.specs.DueCalls.{asks_for}
use Rattle.tx_engine.specs.World.{World, Recorded}
use Rattle.tx_engine.specs.Calls.{next_of}
use Rattle.tx_engine.specs.Replies.{kind_of}
use Rattle.tx_plant.specs.declared.seat.Seat.{Seat}
use Rattle.tx_plant.specs.declared.turn.Outcome.TheVariants as outcome
use Rattle.tx_plant.specs.Steps.{event_of, told_of}
use Rattle.tx_plant.specs.Core.{Core, Reseats, Stepped, ended_by, left, left_by, newest_fate, seat_of}
use Rattle.tx_plant.specs.Entered.{Entered, seat_with}
use Rattle.tx_plant.proofs.Stepping.{leave_gone, leave_stays, taken_seat}
use Rattle.tx_plant.proofs.Driving.{stepped_keeps, stepped_next}
use Rattle.tx_history.specs.History.{next_id}
use Rattle.tx_engine.specs.declared.error.EngineError.{EngineError}

pub entered_stepped : (p q : Core) (s n : ℕ) (call : Call) (reply : Reply) (x y : Pairs) → Entered p s call reply x y n q →
    Stepped p s (Called call (outcome_place call.act (told_of p.world call.id)) reply ∷ []) (Ok (outcome.Accepted n)) q
entered_stepped p q s n call reply x y e = inr (record {
  before = seat_with call.id x;
  after = seat_with call.id y;
  seated = e.seated;
  serves = (
    record { id = call.id; context = y; kept = Some reply },
    reply,
    (refl, inr (record { call = call; reply = reply; due = e.due; own = refl; suits = e.suits; unkept = refl; seat = refl; is = refl })),
    refl,
    e.recorded,
  );
  leaves = e.leaves;
})

left_as : (p : Core) (s : ℕ) (to : World) (t : Seat) (o : Option Seat) (seats2 : List (Option Seat)) (fs : List (ℕ × Pairs)) →
    o ≡ left_by (newest_fate to) t → fs ≡ ended_by (newest_fate to) t p.ended → seats2 ≡ slice_set p.seats s o →
    record { world = to; seats = seats2; waiting = p.waiting; ended = fs } ≡ left p s (newest_fate to) t to
left_as p s to t o seats2 fs a b c =
    ap (λ (z : List (Option Seat)). core_of z fs) (c ∙ ap (slice_set p.seats s) a)
    ∙ ap (λ (z : List (ℕ × Pairs)). core_of (slice_set p.seats s (left_by (newest_fate to) t)) z) b
  where
    core_of : List (Option Seat) → List (ℕ × Pairs) → Core
    core_of z fs = record { world = to; seats = z; waiting = p.waiting; ended = fs }

pub entered_gone : (p q : Core) (s n : ℕ) (call : Call) (reply : Reply) (x y : Pairs) (o : Option Seat) (seats2 : List (Option Seat))
    (fs : List (ℕ × Pairs)) → next_of p.world s ≡ next.Due call → seat_of p s ≡ Some (seat_with call.id x) → asks_for (kind_of reply) call.act ≡ true →
    Recorded p.world (event_of s reply y) n q.world
    → o ≡ left_by (newest_fate q.world) (seat_with call.id y) → fs ≡ ended_by (newest_fate q.world) (seat_with call.id y) p.ended →
    seats2 ≡ slice_set p.seats s o → is_none o ≡ true → Reseats (record { world = q.world; seats = seats2; waiting = p.waiting; ended = fs }) q →
    Entered p s call reply x y n q
entered_gone p q s n call reply x y o seats2 fs due seated suits recorded a b c gone re = record {
  due = due;
  seated = seated;
  suits = suits;
  recorded = recorded;
  leaves = leave_gone (newest_fate q.world) (seat_with call.id y) (left p s (newest_fate q.world) (seat_with call.id y) q.world) q
      (sym (ap is_none a) ∙ gone) (subst (λ (z : Core). Reseats z q) (left_as p s q.world (seat_with call.id y) o seats2 fs a b c) re);
}

pub entered_stays : (p : Core) (to : World) (s n : ℕ) (call : Call) (reply : Reply) (x y : Pairs) (o : Option Seat) (seats2 : List (Option Seat))
    (fs : List (ℕ × Pairs)) → next_of p.world s ≡ next.Due call → seat_of p s ≡ Some (seat_with call.id x) → asks_for (kind_of reply) call.act ≡ true →
    Recorded p.world (event_of s reply y) n to
    → o ≡ left_by (newest_fate to) (seat_with call.id y) → fs ≡ ended_by (newest_fate to) (seat_with call.id y) p.ended → seats2 ≡ slice_set p.seats s o →
    is_none o ≡ false → Entered p s call reply x y n (record { world = to; seats = seats2; waiting = p.waiting; ended = fs })
entered_stays p to s n call reply x y o seats2 fs due seated suits recorded a b c stays = record {
  due = due;
  seated = seated;
  suits = suits;
  recorded = recorded;
  leaves = leave_stays (newest_fate to) (seat_with call.id y) (left p s (newest_fate to) (seat_with call.id y) to)
      (record { world = to; seats = seats2; waiting = p.waiting; ended = fs }) (sym (ap is_none a) ∙ stays)
      (left_as p s to (seat_with call.id y) o seats2 fs a b c);
}

pub seated_is : (seats : List (Option Seat)) (s id : ℕ) (o : Option Seat) (l : Seat) (b : Bool) → s < length seats → o ≡ get_or seats s o → Some l ≡ o →
    l.id ≡ id → is_some l.kept ≡ not b → b ≡ true → (x : Pairs) × get_or seats s None ≡ Some (seat_with id x)
seated_is seats s id o l b h e f i n t = (l.context, taken_seat seats s o l h e f ∙ ap Some (at l.kept (none_by_reply l.kept b n ∙ t))) where
  at : (k : Option Reply) → is_none k ≡ true → record { id = l.id; context = l.context; kept = k } ≡ seat_with id l.context
  at None n = ap (λ z. seat_with z l.context) i
  at (Some r) n = absurd (cc)

  none_by_reply : (k : Option Reply) (b : Bool) → is_some k ≡ not b → is_none k ≡ b
  none_by_reply o true e = ap not e
  none_by_reply o false e = ap not e

-- there are still as many seats as sessions, and the next id stays
pub entered_running : (p q : Core) (s a b : ℕ) (call : Call) (reply : Reply) (y : Pairs) (r : Result (ℕ × Pairs) EngineError) →
    length p.seats ≡ p.world.sessions → a ≡ next_id p.world.start p.world.past → b ≡ a → IfOk r (λ z. Entered p s call reply z.1 y z.0 q) →
    OnErr r (q ≡ p) → (length q.seats ≡ q.world.sessions) × (b ≡ next_id q.world.start q.world.past)
entered_running p q s a b call reply y (Ok z) h i j e k =
    let t = entered_stepped p q s z.0 call reply z.1 y e in
    let m = Called call (outcome_place call.act (told_of p.world call.id)) reply ∷ [] in
    let keeps = stepped_keeps p q s m (Ok (outcome.Accepted z.0)) t in
    (keeps.seats ∙ (h ∙ sym keeps.sessions), j ∙ (i ∙ sym (stepped_next p q s m (Ok (outcome.Accepted z.0)) t)))
entered_running p q s a b call reply y (Err z) h i j e k = (
  ap (λ (c : Core). length c.seats) k ∙ (h ∙ ap (λ (c : Core). c.world.sessions) (sym k)),
  j ∙ (i ∙ ap (λ (c : Core). next_id c.world.start c.world.past) (sym k)),
)
