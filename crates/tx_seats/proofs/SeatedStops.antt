-- A new plant, and one after a stop: session 0 is seated where it has something to recover.
-- for: laws::seats_are_held
use Rattle.std.proofs.Common.{◌≡◌, ◌≢◌, ◌≤◌, ◌==◌, ℕ, false, inl, inr, List, [], length, get_or, Option, Some}
use Rattle.std.proofs.Common.{None, Result, Ok, Err}
use Rattle.std.proofs.Common.{refl, sym, ◌∙◌, ap, subst}
use Rattle.std.specs.Prelude.{nat_lt, option_map, ◌||◌}
use Rattle.std.proofs.lemmas.List.{length-replicate}
use Rattle.sw_context.specs.Pairs.{Pairs}
use Rattle.flow_model.specs.declared.flow.Flow.{Flow}
use Rattle.tx_history.specs.declared.journal.JournalView.{JournalView}
use Rattle.tx_history.specs.declared.journal.Row.{Row}
use Rattle.tx_history.specs.Keys.{look}
use Rattle.tx_history.specs.History.{holds, last_of, own_items, taken}
use Rattle.tx_history.specs.Journal.{to_close}
use Rattle.tx_history.specs.Lives.{opened}
use Rattle.tx_history.proofs.OwnItems.{FoundRow, found, holds_serves}
use Rattle.tx_history.proofs.Sessions.{serves_who}
use Rattle.tx_engine.specs.World.{World}
use Rattle.tx_engine.specs.Calls.{held_id}
use Rattle.tx_engine.specs.Opening.{first_start, opened_world, unknown_of}
use Rattle.tx_engine.proofs.Keeps.{same_no}
use Rattle.tx_plant.specs.declared.seat.Seat.{Seat}
use Rattle.tx_plant.specs.declared.turn.Outcome.{Outcome}
use Rattle.tx_plant.specs.declared.turn.Outcome.TheVariants as outcome
use Rattle.tx_plant.specs.declared.turn.PlantError.{PlantError}
use Rattle.tx_plant.specs.Recovered.{pairs_of, recovered}
use Rattle.tx_plant.specs.Steps.{Moved}
use Rattle.tx_plant.specs.Core.{Core, find, seat_of}
use Rattle.tx_plant.specs.Plant.{Fresh, IsEngine, Opened, Seen, Stops, Whole}
use Rattle.tx_seats.specs.Drives.{IsMade}
use Rattle.tx_seats.specs.Seated.{Seated, seat_id}
use Rattle.tx_seats.proofs.FreeSessions.{some_session}
use Rattle.tx_seats.proofs.Reseating.{Awaits, Begins, seated_again}
use Rattle.tx_seats.proofs.SeatSets.{reseats_world}
use Rattle.tx_engine.proofs.Opens.{closes_same}
use Rattle.tx_plant.proofs.Restarting.{none_seat}

-- closing entries leave the sessions alone

opened_holds : (f : Flow) (view : JournalView) (n t : ℕ) → held_id (opened_world f view n) t ≡ holds f (first_start view) [] t
opened_holds f view n t = closes_same (λ p. holds f (first_start view) p t) (λ id p. refl) (to_close f view.rows) []

others_free : (f : Flow) (view : JournalView) (n t : ℕ) → 0 ≢ t → held_id (opened_world f view n) t ≡ None
others_free f view n t d = opened_holds f view n t ∙ (let no : (t == 0) ≡ false = same_no t 0 (λ (e : t ≡ 0). d (sym e)) in rw no refl)

-- what session 0 recovers first

saved : (view : JournalView) (ws : List (ℕ × Pairs)) (id : ℕ) (r : Row) → ((j : ℕ) → find j ws ≡ recovered view j) → look id view.rows ≡ Some r →
    find id ws ≡ Some (pairs_of r.context)
saved view ws id r all h = all id ∙ ap (option_map (λ (r : Row). pairs_of r.context)) h

first_row : (f : Flow) (view : JournalView) (n id : ℕ) → IsEngine (opened_world f view n) → held_id (opened_world f view n) 0 ≡ Some id →
    FoundRow f view.rows (own_items f (first_start view) (opened f (first_start view))) id
first_row f view n id engine held = elim (serves_who f (first_start view) (opened f (first_start view)) 0 id
    (holds_serves f (first_start view) (opened f (first_start view)) 0 id held).0) [
      | inl a ↦ found f view.rows (own_items f (first_start view) (opened f (first_start view))) 1 view.next_id id engine.start.view.ordered.rows a.0
      | inr a ↦ absurd (let none : taken (first_start view) (opened f (first_start view)) 0 ≡ None =
          closes_same (λ p. taken (first_start view) p 0) (λ id p. refl) (to_close f view.rows) [] in cc)
    ]

fresh_begins : (f : Flow) (view : JournalView) (n : ℕ) (c : Core) (id : ℕ) → c.world ≡ opened_world f view n → IsEngine (opened_world f view n) →
    ((j : ℕ) → find j c.waiting ≡ recovered view j) → held_id (opened_world f view n) 0 ≡ Some id → Begins c id
fresh_begins f view n c id world engine all held =
    let row = first_row f view n id engine held in
    let last : last_of f (first_start view) (opened f (first_start view)) id ≡ 0 =
    closes_same (λ p. last_of f (first_start view) p id) (λ i p. refl) (to_close f view.rows) [] in
    let p : Core = record { world = opened_world f view n; seats = c.seats; waiting = c.waiting; ended = c.ended } in
    let there : Begins p id = record {
      written = ap (λ (k : ℕ). nat_lt 0 k) last;
      going = (holds_serves f (first_start view) (opened f (first_start view)) 0 id held).1;
      context = pairs_of row.row.context;
      waits = saved view c.waiting id row.row all row.there;
    } in
    subst (λ (w : World). Begins (record { world = w; seats = c.seats; waiting = c.waiting; ended = c.ended }) id) (sym world) there

-- nobody is seated yet

fresh_none : (f : Flow) (view : JournalView) (n : ℕ) (c : Core) (s : ℕ) → Fresh f view n c → seat_of c s ≡ None
fresh_none f view n c s k = ap (λ (l : List (Option Seat)). get_or l s None) k.seats ∙ none_seat n s

no_seat : (l : Seat) → ◌≡◌ {A = Option Seat} None (Some l) → ⊥
no_seat l e = cc

fresh_awaits : (f : Flow) (view : JournalView) (n : ℕ) (c : Core) → Fresh f view n c → IsEngine c.world → 1 ≤ n → Awaits c
fresh_awaits f view n c k engine some =
    let opens : IsEngine (opened_world f view n) = subst IsEngine k.world engine in
    let sessions : c.world.sessions ≡ n = ap (λ (w : World). w.sessions) k.world in
    record {
      engine = engine;
      sessions = subst (λ (m : ℕ). 1 ≤ m) (sym sessions) some;
      places = ap length k.seats ∙ (length-replicate n None ∙ sym sessions);
      others = λ s d. ap seat_id (fresh_none f view n c s k) ∙ sym (ap (λ (w : World). held_id w s) k.world ∙ others_free f view n s d);
      first = λ l e. absurd (no_seat l (sym (fresh_none f view n c 0 k) ∙ e));
      begins = λ id e held. fresh_begins f view n c id k.world opens k.waiting (sym (ap (λ (w : World). held_id w 0) k.world) ∙ held);
      replies = λ s l r e h. absurd (no_seat l (sym (fresh_none f view n c s k) ∙ e));
      waits = λ id u d. (
        pairs_of u.row.context,
        saved view c.waiting id u.row k.waiting (sym (ap (λ (w : World). look id w.start.view.rows) k.world)
            ∙ u.there),
      );
    }

-- the engine that was opened

pub opened_seated : (f : Flow) (n : ℕ) (view : JournalView) (j k : Seen) (q : Core) → IsEngine q.world → Opened f n view j q k → Seated q
opened_seated f n view j k q engine o =
    let some : 1 ≤ n = some_session n (nat_lt n 1 || nat_lt 16 n) (unknown_of f view.rows) refl o.allowed in
    seated_again o.first q (fresh_awaits f view n o.first o.is_fresh (subst IsEngine (reseats_world o.first q o.reseats) engine) some) o.reseats

pub made_seated : (f : Flow) (n : ℕ) (view : JournalView) (j : Seen) (p : Whole) → IsMade f n view j p → Seated p.core
made_seated f n view j p k = opened_seated f n view j p.journal p.core k.engine k.opened

pub stops_seated : (p q : Whole) (m : List Moved) (r : Result Outcome PlantError) → Seated p.core → IsEngine q.core.world → Stops m p r q → Seated q.core
stops_seated p q m (Ok (outcome.Restarted u)) h engine k = opened_seated p.core.world.flow p.core.world.sessions k.0 p.journal q.journal q.core engine k.2
stops_seated p q m (Ok (outcome.Refused e)) h engine k = subst Seated (sym k.0.1) h
stops_seated p q m (Err e) h engine k = subst Seated (sym k.0.1) h
stops_seated p q m (Ok (outcome.Accepted n)) h engine k = absurd k
stops_seated p q m (Ok outcome.Idle) h engine k = absurd k
stops_seated p q m (Ok outcome.Unwritten) h engine k = absurd k
stops_seated p q m (Ok (outcome.Held c)) h engine k = absurd k
stops_seated p q m (Ok (outcome.Written n)) h engine k = absurd k
stops_seated p q m (Ok (outcome.Cut n)) h engine k = absurd k
