-- Session 0 is given the context of the transaction that it begins to recover.
-- for: laws::seats_are_held
use Rattle.std.proofs.Common.{◌≡◌, ◌≢◌, ◌==◌, ℕ, ◌<◌, ◌≤◌, Bool, true, false, List, length, slice_set, Option, Some, None, refl, sym, ◌∙◌, ap, subst, arith}
use Rattle.std.specs.Prelude.{cond, nat_le, nat_lt, option_map}
use Rattle.std.proofs.lemmas.Bool.Decides.{nat_tests}
use Rattle.std.proofs.lemmas.List.{length-set}
use Rattle.std.specs.Ordering.{nat_cmp}
use Rattle.sw_base.specs.Refusals.{refused_if}
use Rattle.sw_context.specs.Pairs.{Pairs}
use Rattle.sw_participant.specs.declared.call.Call.{Call}
use Rattle.sw_participant.specs.declared.call.Reply.{Reply}
use Rattle.tx_machine.specs.declared.values.Due.{Due}
use Rattle.tx_machine.specs.declared.values.Due.TheVariants as due
use Rattle.tx_machine.specs.Due.{due_of}
use Rattle.tx_history.specs.History.{is_held_at, is_over, restores, state_of}
use Rattle.tx_slots.specs.declared.next.Next.{Next}
use Rattle.tx_slots.specs.declared.next.Next.TheVariants as next
use Rattle.tx_slots.specs.DueCalls.{asked, call_with, next_by}
use Rattle.tx_engine.specs.declared.error.EngineError.TheVariants.{NoSession}
use Rattle.tx_engine.specs.World.{World}
use Rattle.tx_engine.specs.Calls.{answers, due_call, held_id, is_unwritten, next_in, next_of}
use Rattle.tx_engine.specs.Replies.{kind_of}
use Rattle.tx_plant.specs.declared.seat.Seat.{Seat}
use Rattle.tx_plant.specs.Core.{Core, Reseats, ReseatsBy, Without, called_id, find, new_seat, newcomer, seat_of, waits_for}
use Rattle.tx_plant.specs.Plant.{IsEngine}
use Rattle.tx_seats.specs.Seated.{IsUnfinished, Seated, seat_id}
use Rattle.tx_seats.proofs.DueCalls.{due_id}
use Rattle.tx_seats.proofs.SeatSets.{by_session, set_here, set_there}
use Rattle.tx_plant.proofs.Maps.{apart_by}

-- the call of a transaction that goes on

call_there_by : (id : ℕ) (recovering : Bool) (d : Due) (o : Option (ℕ × Bool)) → is_over d ≡ false → (c : Call) × (call_with id recovering d o ≡ Some c)
call_there_by id recovering d (Some r) h = (_, refl)
call_there_by id recovering (due.Prepare s) None h = (_, refl)
call_there_by id recovering (due.PrepareForAbort s) None h = (_, refl)
call_there_by id recovering (due.Select s) None h = (_, refl)
call_there_by id recovering (due.Commit p) None h = (_, refl)
call_there_by id recovering (due.Abort p) None h = (_, refl)
call_there_by id recovering due.Shelve None h = absurd (cc)
call_there_by id recovering due.Done None h = absurd (cc)

-- the transaction that session 0 has not begun with, and its context
pub record Begins (p : Core) (id : ℕ) : Type 0 where
  pub written : is_unwritten p.world id ≡ false
  pub going : is_over (due_of p.world.flow (state_of p.world.flow p.world.start p.world.past id)) ≡ false
  pub context : Pairs
  pub waits : find id p.waiting ≡ Some context

-- all are seated, but session 0 may have no seat for a transaction that it begins with
pub record Awaits (p : Core) : Type 0 where
  pub engine : IsEngine p.world
  pub sessions : 1 ≤ p.world.sessions
  pub places : length p.seats ≡ p.world.sessions
  pub others : (s : ℕ) → 0 ≢ s → seat_id (seat_of p s) ≡ held_id p.world s
  pub first : (l : Seat) → seat_of p 0 ≡ Some l → held_id p.world 0 ≡ Some l.id
  pub begins : (id : ℕ) → seat_of p 0 ≡ None → held_id p.world 0 ≡ Some id → Begins p id
  pub replies : (s : ℕ) (l : Seat) (r : Reply) → seat_of p s ≡ Some l → l.kept ≡ Some r → asked (kind_of r) (next_of p.world s) ≡ true
  pub waits : (id : ℕ) → IsUnfinished p.world id → held_id p.world 0 ≢ Some id → (x : Pairs) × (find id p.waiting ≡ Some x)

-- where session 0 has the seat that it needs

all_seated : (p : Core) → Awaits p → seat_id (seat_of p 0) ≡ held_id p.world 0 → Seated p
all_seated p a h = record {
  engine = a.engine;
  sessions = a.sessions;
  places = a.places;
  seats = λ s. by_session 0 s (seat_id (seat_of p s) ≡ held_id p.world s) (λ e. subst (λ (t : ℕ). seat_id (seat_of p t) ≡ held_id p.world t) e h)
      (λ d. a.others s d) (0 == s) refl;
  replies = a.replies;
  waits = a.waits;
}

-- what comes to session 0

known_by : (w : World) (x : Next) (b : Bool) → nat_le w.sessions 0 ≡ b → 1 ≤ w.sessions →
    answers (refused_if b NoSession) x ≡ answers (refused_if false NoSession) x
known_by w x false e some = refl
known_by w x true e some = absurd (let none : w.sessions ≤ 0 = grind (arith, nat_tests) in omega (arith, none, some))

called_by : (b : Bool) (c : Call) → called_id (answers (refused_if false NoSession) (next_by false b (Some c))) ≡ Some c.id
called_by true c = refl
called_by false c = refl

called_none : (p : Core) → 1 ≤ p.world.sessions → held_id p.world 0 ≡ None → newcomer p ≡ None
called_none p some none =
    let next : next_of p.world 0 ≡ next.Idle = ap (next_in p.world 0) none in
    ap (λ (x : _). waits_for p.waiting (called_id x)) (known_by p.world (next_of p.world 0) (nat_le p.world.sessions 0) refl some)
    ∙ ap (λ (x : Next). waits_for p.waiting (called_id (answers (refused_if false NoSession) x))) next

called_some : (p : Core) (id : ℕ) → 1 ≤ p.world.sessions → held_id p.world 0 ≡ Some id → (b : Begins p id) → newcomer p ≡ Some (id, b.context)
called_some p id some held b =
    let w = p.world in
    let c = call_there_by id (nat_lt id w.start.view.next_id) (due_of w.flow (state_of w.flow w.start w.past id))
    (restores w.flow w.start w.past id) b.going in
    let same : c.0.id ≡ id = due_id w id c.0 c.1 in
    let next : next_of w 0 ≡ next_by false (is_held_at w.flow w.start w.past 0 (Some id)) (Some c.0) =
    ap (next_in w 0) held ∙ (ap (λ (u : Bool). next_by u (is_held_at w.flow w.start w.past 0 (Some id)) (due_call w id)) b.written
    ∙ ap (λ (o : Option Call). next_by false (is_held_at w.flow w.start w.past 0 (Some id)) o) c.1) in
    ap (λ (x : _). waits_for p.waiting (called_id x)) (known_by w (next_of w 0) (nat_le w.sessions 0) refl some)
    ∙ (ap (λ (x : Next). waits_for p.waiting (called_id (answers (refused_if false NoSession) x))) next
    ∙ (ap (waits_for p.waiting) (called_by (is_held_at w.flow w.start w.past 0 (Some id)) c.0 ∙ ap Some same)
    ∙ ap (option_map (λ (x : Pairs). (id, x))) b.waits))

-- it is seated

some_id : (i j : ℕ) → Some i ≡ Some j → i ≡ j
some_id i j e = grind (arith)

still_waits : (j : ℕ) (xs ys : List (ℕ × Pairs)) (id : ℕ) (x : Pairs) → Without j xs ys → j ≢ id → find id xs ≡ Some x → find id ys ≡ Some x
still_waits j xs ys id x out d h = out id ∙ (ap (λ (b : Bool). cond b None (find id xs)) (apart_by j id d (nat_cmp j id) refl) ∙ h)

abbrev came : Core → ℕ × Pairs → List (ℕ × Pairs) → Core
came p x ws = record p { seats = slice_set p.seats 0 (Some (new_seat x)); waiting = ws }

no_reply : (l : Seat) (x : ℕ × Pairs) (r : Reply) → Some (new_seat x) ≡ Some l → l.kept ≡ Some r → ⊥
no_reply l x r e h = let same : new_seat x ≡ l = grind (arith, e) in let none : l.kept ≡ None = sym (ap (λ (z : Seat). z.kept) same) in cc

came_seated : (p : Core) (id : ℕ) (x : Pairs) (ws : List (ℕ × Pairs)) → Awaits p → held_id p.world 0 ≡ Some id → Without id p.waiting ws →
    Seated (came p (id, x) ws)
came_seated p id x ws a held out =
    let some = a.sessions in
    let long = a.places in
    let within : 0 < length p.seats = omega (arith, some, long) in
    let here : seat_of (came p (id, x) ws) 0 ≡ Some (new_seat (id, x)) = set_here p.seats 0 (Some (new_seat (id, x))) within in
    record {
      engine = a.engine;
      sessions = a.sessions;
      places = length-set p.seats 0 (Some (new_seat (id, x))) ∙ a.places;
      seats = λ s. by_session 0 s (seat_id (seat_of (came p (id, x) ws) s) ≡ held_id p.world s)
          (λ e. subst (λ (t : ℕ). seat_id (seat_of (came p (id, x) ws) t) ≡ held_id p.world t) e (ap seat_id here ∙ sym held))
          (λ d. ap seat_id (set_there p.seats 0 s (Some (new_seat (id, x))) d) ∙ a.others s d)
          (0 == s) refl;
      replies = λ s l r e h. by_session 0 s (asked (kind_of r) (next_of p.world s) ≡ true)
          (λ z. absurd (no_reply l (id, x) r (sym here ∙ (ap (seat_of (came p (id, x) ws)) z ∙ e)) h))
          (λ d. a.replies s l r (sym (set_there p.seats 0 s (Some (new_seat (id, x))) d) ∙ e) h)
          (0 == s) refl;
      waits = λ j u d. (let w = a.waits j u d in (w.0, still_waits id p.waiting ws j w.0 out (λ (e : id ≡ j). d (held ∙ ap Some e)) w.1));
    }

came_by : (p q : Core) (o : Option (ℕ × Pairs)) (id : ℕ) (x : Pairs) → Awaits p → held_id p.world 0 ≡ Some id → o ≡ Some (id, x) → ReseatsBy None o p q →
    Seated q
came_by p q None id x a held e h = absurd (cc)
came_by p q (Some y) id x a held e h =
    let same : y ≡ (id, x) = grind (arith, e) in
    let z : (q ≡ came p (id, x) q.waiting) × Without id p.waiting q.waiting =
    subst (λ (y : ℕ × Pairs). (q ≡ came p y q.waiting) × Without y.0 p.waiting q.waiting) same h in
    subst Seated (sym z.0) (came_seated p id x q.waiting a held z.1)

none_by : (p q : Core) (o : Option (ℕ × Pairs)) → Awaits p → seat_of p 0 ≡ None → held_id p.world 0 ≡ None → o ≡ None → ReseatsBy None o p q → Seated q
none_by p q (Some y) a seat held e h = absurd (cc)
none_by p q None a seat held e h = subst Seated (sym h) (all_seated p a (ap seat_id seat ∙ sym held))

empty_by : (p q : Core) (o : Option ℕ) → Awaits p → seat_of p 0 ≡ None → held_id p.world 0 ≡ o → ReseatsBy None (newcomer p) p q → Seated q
empty_by p q None a seat held h = none_by p q (newcomer p) a seat held (called_none p a.sessions held) h
empty_by p q (Some id) a seat held h = let b = a.begins id seat held in came_by p q (newcomer p) id b.context a held (called_some p id a.sessions held b) h

seat_by : (p q : Core) (o : Option Seat) → Awaits p → seat_of p 0 ≡ o → ReseatsBy o (newcomer p) p q → Seated q
seat_by p q None a e h = empty_by p q (held_id p.world 0) a e refl h
seat_by p q (Some l) a e h = subst Seated (sym h) (all_seated p a (ap seat_id e ∙ sym (a.first l e)))

pub seated_again : (p q : Core) → Awaits p → Reseats p q → Seated q
seated_again p q a h = seat_by p q (seat_of p 0) a refl h
