-- A step leaves the session its seat, or takes the seat away where the transaction ended.
-- for: laws::seats_are_held
use Rattle.std.proofs.Common.{◌≡◌, ◌≢◌, ◌<◌, ◌≤◌, ◌==◌, ℕ, Bool, true, false, inl, inr, List, ◌∷◌, length, get_or, slice_set, Option, Some, None, Result, Ok}
use Rattle.std.proofs.Common.{Err, refl, sym, ◌∙◌, ap, subst, arith}
use Rattle.std.specs.Prelude.{if◌then◌else◌, nat_lt}
use Rattle.std.proofs.lemmas.Bool.Decides.{nat_tests}
use Rattle.std.proofs.lemmas.List.{length-set}
use Rattle.sw_context.specs.Pairs.{Pairs}
use Rattle.sw_context.specs.Spelling.{bytes_of}
use Rattle.sw_participant.specs.declared.call.Reply.{Reply}
use Rattle.sw_participant.specs.declared.call.Reply.TheVariants as reply
use Rattle.tx_machine.specs.Table.{TxState}
use Rattle.tx_history.specs.declared.event.Event.{Event}
use Rattle.tx_history.specs.declared.event.Event.TheVariants as event
use Rattle.tx_history.specs.declared.event.Change.{Change}
use Rattle.tx_history.specs.declared.journal.Row.{Row}
use Rattle.tx_history.specs.declared.journal.WaitingContext.{WaitingContext}
use Rattle.tx_history.specs.History.{is_ended, shelved, state_of}
use Rattle.tx_history.specs.Journal.{shelved_change, touched}
use Rattle.tx_history.proofs.OwnItems.{holds_serves}
use Rattle.tx_history.proofs.Rows.{as_row, row_unended}
use Rattle.tx_slots.specs.DueCalls.{asked}
use Rattle.tx_engine.specs.World.{World, happened}
use Rattle.tx_engine.specs.Calls.{held_id, next_of}
use Rattle.tx_engine.specs.Replies.{kind_of}
use Rattle.tx_plant.specs.declared.seat.Seat.{Seat}
use Rattle.tx_plant.specs.declared.turn.Outcome.{Outcome}
use Rattle.tx_plant.specs.declared.turn.Outcome.TheVariants as outcome
use Rattle.tx_plant.specs.declared.turn.StepFault.{StepFault}
use Rattle.tx_plant.specs.Steps.{Asked, Moved, Records, Rests, Serves, event_of, told_of}
use Rattle.tx_plant.specs.Core.{Core, Leaves, Stepped, fate_after, fate_by, fate_of, left, newest_fate, seat_of}
use Rattle.tx_plant.specs.Plant.{IsEngine}
use Rattle.tx_seats.specs.Seated.{IsUnfinished, Seated, seat_id}
use Rattle.tx_seats.proofs.DueStands.{SameDue, nothing_new, still_asked, still_due}
use Rattle.tx_seats.proofs.Reseating.{Awaits, Begins, seated_again}
use Rattle.tx_seats.proofs.SeatSets.{by_session, seat_within, set_here, set_there}
use Rattle.tx_seats.proofs.SeatedEntries.{own_back}
use Rattle.tx_seats.proofs.SessionItems.{GivesReply, gives_answered, gives_chose, gives_told, next_held, stays_held, was_waiting}
use Rattle.tx_seats.proofs.SessionsStand.{still_given, still_recovered}

-- a session's seat is set, in a world where the other sessions stand as they stood

abbrev with_seat : Core → ℕ → Option Seat → List (ℕ × Pairs) → World → Core
with_seat p s o es to = record { world = to; seats = slice_set p.seats s o; waiting = p.waiting; ended = es }

-- what the others keep, and which contexts wait
record OthersStand (p : Core) (s : ℕ) (to : World) : Type 0 where
  engine : IsEngine to
  sessions : to.sessions ≡ p.world.sessions
  within : s < length p.seats
  due : (t : ℕ) → s ≢ t → SameDue p.world to t
  back : (id : ℕ) → IsUnfinished to id → held_id to 0 ≢ Some id → IsUnfinished p.world id
  apart : (id : ℕ) → IsUnfinished to id → held_id to 0 ≢ Some id → held_id p.world 0 ≢ Some id

some_seat : (l t : Seat) → Some l ≡ Some t → l ≡ t
some_seat l t e = cc

stays : (p : Core) (s : ℕ) (l : Seat) (es : List (ℕ × Pairs)) (to : World) → Seated p → OthersStand p s to → held_id to s ≡ Some l.id →
    ((r : Reply) → l.kept ≡ Some r → asked (kind_of r) (next_of to s) ≡ true) → Seated (with_seat p s (Some l) es to)
stays p s l es to h z held kept =
    let here : get_or (slice_set p.seats s (Some l)) s None ≡ Some l = set_here p.seats s (Some l) z.within in
    record {
      engine = z.engine;
      sessions = subst (λ (n : ℕ). 1 ≤ n) (sym z.sessions) h.sessions;
      places = length-set p.seats s (Some l) ∙ (h.places ∙ sym z.sessions);
      seats = λ t. by_session s t (seat_id (get_or (slice_set p.seats s (Some l)) t None) ≡ held_id to t)
          (λ e. subst (λ (t : ℕ). seat_id (get_or (slice_set p.seats s (Some l)) t None) ≡ held_id to t) e (ap seat_id here ∙ sym held))
          (λ d. ap seat_id (set_there p.seats s t (Some l) d) ∙ (h.seats t ∙ sym (z.due t d).held))
          (s == t) refl;
      replies = λ t x r e k. by_session s t (asked (kind_of r) (next_of to t) ≡ true)
          (λ i. (let same : l ≡ x = some_seat l x (sym here ∙ (ap (λ (n : ℕ). get_or (slice_set p.seats s (Some l)) n None) i ∙ e)) in
          subst (λ (t : ℕ). asked (kind_of r) (next_of to t) ≡ true) i (kept r (ap (λ (y : Seat). y.kept) same ∙ k))))
          (λ d. still_asked p.world to t (kind_of r) (z.due t d) (h.replies t x r (sym (set_there p.seats s t (Some l) d) ∙ e) k))
          (s == t) refl;
      waits = λ id u d. h.waits id (z.back id u d) (z.apart id u d);
    }

-- the seat is emptied, and session 0 may await another transaction's

abbrev Follows : Core → ℕ → World → Type 0
Follows p s to = (j : ℕ) → held_id to s ≡ Some j → (s ≡ 0) × ((es : List (ℕ × Pairs)) → Begins (with_seat p s None es to) j)

none_held : (o : Option ℕ) → ((j : ℕ) → o ≡ Some j → ⊥) → o ≡ None
none_held None h = refl
none_held (Some j) h = absurd (h j refl)

goes : (p : Core) (s : ℕ) (es : List (ℕ × Pairs)) (to : World) → Seated p → OthersStand p s to → Follows p s to → Awaits (with_seat p s None es to)
goes p s es to h z next =
    let here : get_or (slice_set p.seats s None) s None ≡ None = set_here p.seats s None z.within in
    record {
      engine = z.engine;
      sessions = subst (λ (n : ℕ). 1 ≤ n) (sym z.sessions) h.sessions;
      places = length-set p.seats s None ∙ (h.places ∙ sym z.sessions);
      others = λ t first. by_session s t (seat_id (get_or (slice_set p.seats s None) t None) ≡ held_id to t)
          (λ e. (let free : held_id to s ≡ None = none_held (held_id to s) (λ j k. first (sym (next j k).0 ∙ e)) in
          subst (λ (t : ℕ). seat_id (get_or (slice_set p.seats s None) t None) ≡ held_id to t) e (ap seat_id here ∙ sym free)))
          (λ d. ap seat_id (set_there p.seats s t None d) ∙ (h.seats t ∙ sym (z.due t d).held))
          (s == t) refl;
      first = λ l e. by_session s 0 (held_id to 0 ≡ Some l.id)
          (λ i. absurd (let none : get_or (slice_set p.seats s None) 0 None ≡ None = ap (λ (n : ℕ). get_or (slice_set p.seats s None) n None) (sym i)
          ∙ here in cc))
          (λ d. (z.due 0 d).held ∙ (sym (h.seats 0) ∙ ap seat_id (sym (set_there p.seats s 0 None d) ∙ e)))
          (s == 0) refl;
      begins = λ id e held. by_session s 0 (Begins (with_seat p s None es to) id)
          (λ i. (next id (ap (held_id to) i ∙ held)).1 es)
          (λ d. absurd (let free : held_id to 0 ≡ None = (z.due 0 d).held ∙ (sym (h.seats 0) ∙ ap seat_id (sym (set_there p.seats s 0 None d) ∙ e)) in cc))
          (s == 0) refl;
      replies = λ t x r e k. by_session s t (asked (kind_of r) (next_of to t) ≡ true)
          (λ i. absurd (let none : get_or (slice_set p.seats s None) t None ≡ None = ap (λ (n : ℕ). get_or (slice_set p.seats s None) n None) (sym i)
          ∙ here in cc))
          (λ d. still_asked p.world to t (kind_of r) (z.due t d) (h.replies t x r (sym (set_there p.seats s t None d) ∙ e) k))
          (s == t) refl;
      waits = λ id u d. h.waits id (z.back id u d) (z.apart id u d);
    }

-- an item is recorded

else_given : (p : Core) (e : Event) (s : ℕ) → Seated p → IsEngine (happened p.world e) → s < length p.seats →
    GivesReply p.world.flow p.world.start p.world.past e s → OthersStand p s (happened p.world e)
else_given p e s h engine lt g =
    let w = p.world in
    record {
      engine = engine;
      sessions = refl;
      within = lt;
      due = λ t d. still_due w e t (still_given w.flow w.start w.past e s g.id t g.item g.advice g.ordered g.reply g.turn g.serves d);
      back = λ id u d. record { row = u.row; there = u.there; going = (was_waiting w.flow w.start w.past e s id u.row g u.there u.going d).going };
      apart = λ id u d. (was_waiting w.flow w.start w.past e s id u.row g u.there u.going d).apart;
    }

none_above : (n : ℕ) → nat_lt n 0 ≡ false
none_above n = grind (arith, nat_tests)

follows_given : (p : Core) (e : Event) (s : ℕ) → Seated p → (g : GivesReply p.world.flow p.world.start p.world.past e s) →
    is_ended p.world.flow (state_of p.world.flow p.world.start (e ∷ p.world.past) g.id) ≡ true → Follows p s (happened p.world e)
follows_given p e s h g over j held =
    let w = p.world in
    let k = next_held w.flow w.start w.past e s j g over held in
    let x = h.waits j (record { row = k.row; there = k.there; going = k.was.going }) k.was.apart in
    let going = (holds_serves w.flow w.start (e ∷ w.past) s j held).1 in
    (k.first, λ es. record { written = ap (λ (n : ℕ). nat_lt w.mark n) k.fresh ∙ none_above w.mark; going = going; context = x.0; waits = x.1 })

over_by : (p q : Core) (s id : ℕ) (l : Seat) (to : World) (item : Option (ℕ × WaitingContext)) → Seated p → OthersStand p s to → Follows p s to →
    Leaves (fate_by (Some (id, None)) item) (left p s (fate_by (Some (id, None)) item) l to) q → Seated q
over_by p q s id l to None h z next k = seated_again _ q (goes p s _ to h z next) k
over_by p q s id l to (Some item) h z next k = seated_again _ q (goes p s _ to h z next) k

item_by : (p q : Core) (e : Event) (s : ℕ) (l : Seat) (r : Row) (item : Option (ℕ × WaitingContext)) (g : GivesReply p.world.flow p.world.start p.world.past e s) →
    Seated p → OthersStand p s (happened p.world e) → l.id ≡ g.id → l.kept ≡ None
    → (b : Bool) → is_ended p.world.flow (state_of p.world.flow p.world.start (e ∷ p.world.past) g.id) ≡ b
    → Leaves (fate_by (Some (g.id, if b then None else Some r)) item) (left p s (fate_by (Some (g.id, if b then None else Some r)) item) l
    (happened p.world e)) q → Seated q
item_by p q e s l r item g h z own none true over k = over_by p q s g.id l (happened p.world e) item h z (follows_given p e s h g over) k
item_by p q e s l r item g h z own none false going k =
    let held : held_id (happened p.world e) s ≡ Some l.id = stays_held p.world.flow p.world.start p.world.past e s g going ∙ ap Some (sym own) in
    subst Seated (sym k) (stays p s l p.ended (happened p.world e) h z held (λ x f. absurd (cc)))

item_seated : (p q : Core) (e : Event) (s : ℕ) (l : Seat) → Seated p → IsEngine (happened p.world e) → s < length p.seats →
    (g : GivesReply p.world.flow p.world.start p.world.past e s) → l.id ≡ g.id → l.kept ≡ None
    → Leaves (newest_fate (happened p.world e)) (left p s (newest_fate (happened p.world e)) l (happened p.world e)) q → Seated q
item_seated p q e s l h engine lt g own none k =
    let f = p.world.flow in
    let v = p.world.start in
    let past = p.world.past in
    let to : World = happened p.world e in
    let st : TxState = state_of f v (e ∷ past) g.id in
    let change_is = g.turn.change ∙ ap (touched f v (e ∷ past) g.advice) g.serves in
    let k1 = subst (λ (c : Change). Leaves (fate_of c) (left p s (fate_of c) l to) q) change_is k in
    let k2 = subst (λ (o : Option Row). Leaves (fate_by (Some (g.id, o)) (shelved_change g.id (shelved f st true)))
    (left p s (fate_by (Some (g.id, o)) (shelved_change g.id (shelved f st true))) l to) q) (row_unended f st) k1 in
    item_by p q e s l (as_row f st) (shelved_change g.id (shelved f st true)) g h (else_given p e s h engine lt g) own none (is_ended f st) refl k2

-- a context is restored

restored_seated : (p q : Core) (s : ℕ) (c : List ℕ) (l : Seat) → Seated p → IsEngine (happened p.world (event.Recovered s c)) → s < length p.seats →
    held_id p.world s ≡ Some l.id → l.kept ≡ None
    → q ≡ left p s (newest_fate (happened p.world (event.Recovered s c))) l (happened p.world (event.Recovered s c)) → Seated q
restored_seated p q s c l h engine lt held none k =
    let w = p.world in
    let e : Event = event.Recovered s c in
    let o = h.engine.start.view.ordered in
    subst Seated (sym k) (stays p s l p.ended (happened w (event.Recovered s c)) h
    (record {
      engine = engine;
      sessions = refl;
      within = lt;
      due = λ t d. still_due w (event.Recovered s c) t (still_recovered w.flow w.start w.past s t c o engine.lawful.lawful.0 d);
      back = λ id u d. own_back w (event.Recovered s c) id o refl u;
      apart = λ id u d. d;
    })
    held (λ x f. absurd (cc)))

-- the reply is recorded

same_id : (w : World) (s : ℕ) (l : Seat) (e : Event) (g : GivesReply w.flow w.start w.past e s) → held_id w s ≡ Some l.id → l.id ≡ g.id
same_id w s l e g held = let serves = (holds_serves w.flow w.start w.past s l.id held).0 in let given = g.serves in some_id l.id g.id (sym serves ∙ given)
  where
    some_id : (i j : ℕ) → Some i ≡ Some j → i ≡ j
    some_id i j q = cc

recorded_by : (p q : Core) (s : ℕ) (r : Reply) (x : Pairs) (l : Seat) → Seated p → IsEngine (happened p.world (event_of s r x)) → s < length p.seats →
    held_id p.world s ≡ Some l.id → l.kept ≡ None
    → Leaves (newest_fate (happened p.world (event_of s r x)))
    (left p s (newest_fate (happened p.world (event_of s r x))) l (happened p.world (event_of s r x))) q → Seated q
recorded_by p q s (reply.Answer b) x l h engine lt held none k =
    let g = gives_answered p.world.flow p.world.start p.world.past s b (bytes_of x) h.engine.start.view.ordered engine.lawful.lawful in
    item_seated p q (event.Answered s b (bytes_of x)) s l h engine lt g (same_id p.world s l (event.Answered s b (bytes_of x)) g held) none k
recorded_by p q s (reply.Chosen t) x l h engine lt held none k =
    let g = gives_chose p.world.flow p.world.start p.world.past s t h.engine.start.view.ordered engine.lawful.lawful in
    item_seated p q (event.Chose s t) s l h engine lt g (same_id p.world s l (event.Chose s t) g held) none k
recorded_by p q s (reply.Told a) x l h engine lt held none k =
    let g = gives_told p.world.flow p.world.start p.world.past s a h.engine.start.view.ordered engine.lawful.lawful in
    item_seated p q (event.Told s a) s l h engine lt g (same_id p.world s l (event.Told s a) g held) none k
recorded_by p q s reply.Recovered x l h engine lt held none k = restored_seated p q s (bytes_of x) l h engine lt held none k

-- a seat with the reply of its due call

record IsKept (w : World) (s : ℕ) (l t : Seat) : Type 0 where
  id : t.id ≡ l.id
  kept : (r : Reply) → t.kept ≡ Some r → ((q : Reply) → l.kept ≡ Some q → asked (kind_of q) (next_of w s) ≡ true) → asked (kind_of r) (next_of w s) ≡ true

pub one_reply : (r q : Reply) (o : Option Reply) → o ≡ Some r → o ≡ Some q → q ≡ r
one_reply r q o e h = cc

asked_kept : (w : World) (s n : ℕ) (l t : Seat) (m : List Moved) (r : Reply) → Asked (next_of w s) n l t m r → IsKept w s l t
asked_kept w s n l t m r (kept, inl rests) = record {
  id = ap (λ (z : Seat). z.id) rests.0;
  kept =
      λ q e before. before q (sym (ap (λ (z : Seat). z.kept) rests.0) ∙ e);
}
asked_kept w s n l t m r (kept, inr k) = record {
  id = ap (λ (z : Seat). z.id) k.seat;
  kept = λ q e before. (let same : q ≡ k.reply = one_reply k.reply q t.kept (ap (λ (z : Seat). z.kept) k.seat) e in
      ap (λ (z : Reply). asked (kind_of z) (next_of w s)) same ∙ (ap (asked (kind_of k.reply)) k.due ∙ k.suits));
}

rests_kept : (w : World) (s : ℕ) (l t : Seat) (m : List Moved) → Rests l t m → IsKept w s l t
rests_kept w s l t m rests = record { id = ap (λ (z : Seat). z.id) rests.0; kept = λ q e before. before q (sym (ap (λ (z : Seat). z.kept) rests.0) ∙ e) }

seat_held : (p : Core) (s : ℕ) (l t : Seat) → Seated p → seat_of p s ≡ Some l → t.id ≡ l.id → held_id p.world s ≡ Some t.id
seat_held p s l t h at id = sym (h.seats s) ∙ (ap seat_id at ∙ ap Some (sym id))

-- nothing is recorded

kept_seated : (p q : Core) (s : ℕ) (l t : Seat) → Seated p → seat_of p s ≡ Some l → IsKept p.world s l t → q.world ≡ p.world →
    q ≡ with_seat p s (Some t) p.ended q.world → Seated q
kept_seated p q s l t h at k world is =
    subst Seated (sym (is ∙ ap (λ (w : World). with_seat p s (Some t) p.ended w) world))
    (stays p s t p.ended p.world h
    (record {
      engine = h.engine;
      sessions = refl;
      within = seat_within p.seats s l at;
      due = λ u d. nothing_new p.world u;
      back = λ id u d. u;
      apart =
          λ id u d. d;
    })
    (seat_held p s l t h at k.id) (λ r e. k.kept r e (λ q f. h.replies s l q at f)))

-- a reply is recorded

records_seated : (p q : Core) (s n : ℕ) (l t : Seat) (m : List Moved) → Seated p → IsEngine q.world → seat_of p s ≡ Some l →
    Records p.world s l t m n q.world → Leaves (newest_fate q.world) (left p s (newest_fate q.world) t q.world) q → Seated q
records_seated p q s n l t m h engine at (c, r, asked, t_is, recorded) leaves =
    let world : q.world ≡ happened p.world (event_of s r c.context) = recorded.history in
    let k = asked_kept p.world s (told_of p.world l.id) l c m r asked in
    recorded_by p q s r c.context t h (subst IsEngine world engine) (seat_within p.seats s l at)
    (seat_held p s l t h at (ap (λ (z : Seat). z.id) t_is ∙ k.id)) (ap (λ (z : Seat). z.kept) t_is)
    (subst (λ (w : World). Leaves (newest_fate w) (left p s (newest_fate w) t w) q) world leaves)

served_seated : (p q : Core) (s : ℕ) (m : List Moved) (r : Result Outcome StepFault) (l t : Seat) → Seated p → IsEngine q.world → seat_of p s ≡ Some l →
    Serves p.world s l t m r q.world → Leaves (fate_after r q.world) (left p s (fate_after r q.world) t q.world) q → Seated q
served_seated p q s m (Ok (outcome.Accepted n)) l t h engine at k leaves = records_seated p q s n l t m h engine at k leaves
served_seated p q s m (Ok (outcome.Refused e)) l t h engine at (inl k) leaves = kept_seated p q s l t h at (rests_kept p.world s l t m k.2) k.3 leaves
served_seated p q s m (Ok (outcome.Refused e)) l t h engine at (inr k) leaves =
    kept_seated p q s l t h at (asked_kept p.world s (told_of p.world l.id) l t m k.0 k.2.0) k.2.1 leaves
served_seated p q s m (Ok outcome.Idle) l t h engine at k leaves = kept_seated p q s l t h at (rests_kept p.world s l t m k.2) k.3 leaves
served_seated p q s m (Ok outcome.Unwritten) l t h engine at k leaves = kept_seated p q s l t h at (rests_kept p.world s l t m k.2) k.3 leaves
served_seated p q s m (Ok (outcome.Held c)) l t h engine at k leaves = kept_seated p q s l t h at (rests_kept p.world s l t m k.2) k.3 leaves
served_seated p q s m (Ok (outcome.Written n)) l t h engine at k leaves = kept_seated p q s l t h at (rests_kept p.world s l t m k.2) k.3 leaves
served_seated p q s m (Ok (outcome.Restarted n)) l t h engine at k leaves = kept_seated p q s l t h at (rests_kept p.world s l t m k.2) k.3 leaves
served_seated p q s m (Ok (outcome.Cut n)) l t h engine at k leaves = kept_seated p q s l t h at (rests_kept p.world s l t m k.2) k.3 leaves
served_seated p q s m (Err e) l t h engine at (inl k) leaves = kept_seated p q s l t h at (rests_kept p.world s l t m k.0) k.1 leaves
served_seated p q s m (Err e) l t h engine at (inr k) leaves = kept_seated p q s l t h at (asked_kept p.world s (told_of p.world l.id) l t m k.0 k.1.0)
    k.1.1 leaves

pub stepped_seated : (p q : Core) (s : ℕ) (m : List Moved) (r : Result Outcome StepFault) → Seated p → IsEngine q.world → Stepped p s m r q → Seated q
stepped_seated p q s m r h engine (inl k) = subst Seated (sym k.0.1) h
stepped_seated p q s m r h engine (inr k) = served_seated p q s m r k.before k.after h engine k.seated k.serves k.leaves
