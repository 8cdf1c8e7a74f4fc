-- A new plant recovers, and is at rest then.
-- for: serving::Switch::recover
use Rattle.std.proofs.Common.{◌≡◌, ◌<◌, ◌≤◌, ℕ, zero, suc, ◌-◌, Bool, true, false, inl, inr, List, [], ◌∷◌, ◌++◌, get_or, Option, Some, None, Result, Ok, refl}
use Rattle.std.proofs.Common.{sym, ap, subst, arith, ◌∙◌}
use Rattle.std.specs.Prelude.{◌⊎◌, replicate}
use Rattle.std.specs.List.{AllByRecursion}
use Rattle.std.specs.declared.cmp.Ordering.{Ordering}
use Rattle.std.specs.declared.cmp.Ordering.TheVariants.{Less, Equal, Greater}
use Rattle.std.specs.Ordering.{match_ordering, nat_cmp}
use Rattle.std.specs.BTreeMap.{insert_entry}
use Rattle.sw_context.specs.Pairs.{Pairs}
use Rattle.sw_participant.specs.declared.call.Call.{Call}
use Rattle.sw_participant.specs.declared.call.Reply.{Reply}
use Rattle.sw_participant.specs.declared.call.Reply.TheVariants as reply
use Rattle.flow_model.specs.declared.flow.Flow.{Flow}
use Rattle.tx_machine.specs.Due.{due_of, participant_of}
use Rattle.tx_history.specs.declared.event.Event.{Event}
use Rattle.tx_history.specs.declared.event.Event.TheVariants.{Closed}
use Rattle.tx_history.specs.declared.journal.JournalView.{JournalView}
use Rattle.tx_history.specs.History.{Start, arrivals, has_break, is_held_at, on_break, recovering, state_of, taken, takes}
use Rattle.tx_history.specs.Lives.{closes_of}
use Rattle.tx_history.specs.Journal.{to_close}
use Rattle.tx_history.proofs.OwnItems.{holds_serves}
use Rattle.tx_history.proofs.RecoveredSessions.{none_taken}
use Rattle.tx_history.proofs.Sessions.{recovering_below, serves_who}
use Rattle.tx_slots.specs.declared.next.Next.TheVariants as next
use Rattle.tx_slots.specs.DueCalls.{next_by}
use Rattle.tx_engine.specs.World.{World, happened}
use Rattle.tx_engine.specs.Calls.{held_id, next_in, waits}
use Rattle.tx_engine.specs.Opening.{first_start, opened_world}
use Rattle.tx_plant.specs.declared.seat.Seat.{Seat}
use Rattle.tx_plant.specs.declared.turn.Outcome.{Outcome}
use Rattle.tx_plant.specs.declared.turn.StepFault.{StepFault}
use Rattle.tx_plant.specs.declared.turn.PlantError.{PlantError}
use Rattle.tx_plant.specs.declared.turn.Turn.{Turn}
use Rattle.tx_plant.specs.declared.turn.Turn.TheVariants as turn
use Rattle.tx_plant.specs.Core.{Core, Stepped, newcomer, seat_of}
use Rattle.tx_plant.specs.Plant.{Driven, GoesOn, Seen, Turned, Whole}
use Rattle.tx_plant.specs.Recovery.{IsHeld, IsRecovered, IsRecovery}
use Rattle.tx_plant.specs.Steps.{Moved, event_of}
use Rattle.tx_seats.specs.Drives.{Done, IsMade}
use Rattle.tx_seats.specs.Seated.{Seated, seat_id}
use Rattle.run_switch.specs.declared.progress.Progress.{Progress}
use Rattle.run_responses.specs.Responses.{above}
use Rattle.run_switch.specs.Rounds.{Acts, Recovers}
use Rattle.run_switch.proofs.Doings.{Marked, acts_once, acts_then, marked}
use Rattle.run_responses.proofs.Ended.{not_above}
use Rattle.run_switch.proofs.SessionSteps.{Adds, Enters, gives_by, steps_of}
use Rattle.tx_plant.proofs.Outcomes.{stepped_as}

-- what the laws of plants say of a turn's seats
abbrev pub TurnsSeat : Type 0
TurnsSeat = (t : Turn) (r : Result Outcome PlantError) (m : List Moved) (p q : Whole) → Seated p.core → GoesOn t p q → Turned t r m p q → Seated q.core

abbrev pub AreBelow : ℕ → List (ℕ × Pairs) → Type 0
AreBelow n es = AllByRecursion (λ e. e.0 < n) es

pub below_insert : (n id : ℕ) (x : Pairs) (es : List (ℕ × Pairs)) → id < n → AreBelow n es → AreBelow n (insert_entry nat_cmp es id x)
below_insert n id x [] lt h = (lt, tt)
below_insert n id x (e ∷ es) lt h = by_order (nat_cmp id e.0) (below_insert n id x es lt h.1) where
  by_order : (r : Ordering) → AreBelow n (insert_entry nat_cmp es id x) →
      AreBelow n (match_ordering r ((id, x) ∷ e ∷ es) ((e.0, x) ∷ es) (e ∷ insert_entry nat_cmp es id x))
  by_order Less more = (lt, (h.0, h.1))
  by_order Equal more = (h.0, h.1)
  by_order Greater more = (h.0, more)

none_above_below : (n : ℕ) (es : List (ℕ × Pairs)) → AreBelow n es → above (n - 1) es ≡ []
none_above_below n [] h = refl
none_above_below n (e ∷ es) h = let lt = h.0 in rw (not_above (n - 1) e.0 (omega (arith, lt))) (none_above_below n es h.1)

-- of a plant that recovers: nothing was taken or offered in it, and no breakpoint set
record Begun (view : JournalView) (c : Core) : Type 0 where
  seated : Seated c
  view_is : c.world.start.view ≡ view
  taken : takes c.world.past ≡ 0
  arrived : arrivals c.world.flow c.world.start c.world.past ≡ []
  unbroken : (p : ℕ) → has_break c.world.start c.world.past p ≡ false
  low : AreBelow view.next_id c.ended
  others : (s : ℕ) → seat_of c (suc s) ≡ None

-- at the beginning

closes_takes : (ids : List ℕ) (past : List Event) → takes (closes_of ids past) ≡ takes past
closes_takes [] past = refl
closes_takes (id ∷ ids) past = closes_takes ids (Closed id ∷ past)

closes_arrivals : (f : Flow) (v : Start) (ids : List ℕ) (past : List Event) → arrivals f v (closes_of ids past) ≡ arrivals f v past
closes_arrivals f v [] past = refl
closes_arrivals f v (id ∷ ids) past = closes_arrivals f v ids (Closed id ∷ past)

closes_breaks : (v : Start) (ids : List ℕ) (past : List Event) (p : ℕ) → has_break v (closes_of ids past) p ≡ has_break v past p
closes_breaks v [] past p = refl
closes_breaks v (id ∷ ids) past p = closes_breaks v ids (Closed id ∷ past) p

no_seat : (n s : ℕ) → ◌≡◌ {A = Option Seat} (get_or (replicate n None) s None) None
no_seat zero s = refl
no_seat (suc n) zero = refl
no_seat (suc n) (suc s) = no_seat n s

begun_new : (f : Flow) (n : ℕ) (view : JournalView) (j : Seen) (p : Whole) → IsMade f n view j p → Seated p.core → Begun view p.core
begun_new f n view j p made seated =
    let o = made.opened in
    let gives = gives_by (seat_of o.first 0) (newcomer o.first) o.first p.core o.reseats in
    let world : p.core.world ≡ opened_world f view n = gives.world ∙ o.is_fresh.world in
    let v = first_start view in
    record {
      seated = seated;
      view_is = ap (λ (w : World). w.start.view) world;
      taken = ap (λ (w : World). takes w.past) world ∙ closes_takes (to_close f view.rows) [];
      arrived = ap (λ (w : World). arrivals w.flow w.start w.past) world ∙ closes_arrivals f v (to_close f view.rows) [];
      unbroken = λ k. ap (λ (w : World). has_break w.start w.past k) world ∙ closes_breaks v (to_close f view.rows) [] k;
      low = subst (AreBelow view.next_id) (sym (gives.ended ∙ o.is_fresh.ended)) tt;
      others = λ s. gives.others s ∙ (ap (λ (l : List (Option Seat)). get_or l (suc s) None) o.is_fresh.seats ∙ no_seat n (suc s));
    }

-- a turn

record Quiet (w to : World) : Type 0 where
  view_is : to.start.view ≡ w.start.view
  taken : takes to.past ≡ takes w.past
  arrived : arrivals to.flow to.start to.past ≡ arrivals w.flow w.start w.past
  breaks : (p : ℕ) → has_break to.start to.past p ≡ has_break w.start w.past p

quiet_reply : (w : World) (r : Reply) (x : Pairs) → Quiet w (happened w (event_of 0 r x))
quiet_reply w (reply.Answer byte) x = record { view_is = refl; taken = refl; arrived = refl; breaks = λ p. refl }
quiet_reply w (reply.Chosen text) x = record { view_is = refl; taken = refl; arrived = refl; breaks = λ p. refl }
quiet_reply w (reply.Told advice) x = record { view_is = refl; taken = refl; arrived = refl; breaks = λ p. refl }
quiet_reply w reply.Recovered x = record { view_is = refl; taken = refl; arrived = refl; breaks = λ p. refl }

quiet_same : (w to : World) → to ≡ w → Quiet w to
quiet_same w to same = rw same (record { view_is = refl; taken = refl; arrived = refl; breaks = λ p. refl })

quiet : (w to : World) → Enters 0 w to → Quiet w to
quiet w to (inl same) = quiet_same w to same
quiet w to (inr (r, x, is)) = subst (Quiet w) (sym is) (quiet_reply w r x)

recovered_low : (view : JournalView) (c : Core) (l : Seat) → Begun view c → seat_of c 0 ≡ Some l → l.id < view.next_id
recovered_low view c l b there =
    let w = c.world in
    let held : held_id w 0 ≡ Some l.id = sym (b.seated.seats 0) ∙ ap seat_id there in
    let ordered = b.seated.engine.start.view.ordered in
    who (serves_who w.flow w.start w.past 0 l.id (holds_serves w.flow w.start w.past 0 l.id held).0) where
      who : ((recovering c.world.flow c.world.start c.world.past ≡ Some l.id) × ◌≡◌ {A = ℕ} 0 0) ⊎ (taken c.world.start c.world.past 0 ≡ Some l.id) →
          l.id < view.next_id
      who (inl own) = subst (λ (v : JournalView). l.id < v.next_id) b.view_is
          (recovering_below c.world.flow c.world.start c.world.past l.id b.seated.engine.start.view.ordered own.0)
      who (inr took) = absurd (let none = none_taken c.world.start c.world.past 0 b.taken in cc)

low_then : (view : JournalView) (p q : Core) → Begun view p → Adds 0 p q → AreBelow view.next_id q.ended
low_then view p q b (inl same) = subst (AreBelow view.next_id) (sym same) b.low
low_then view p q b (inr (l, x, there, more)) = subst (AreBelow view.next_id) (sym more)
    (below_insert view.next_id l.id x p.ended (recovered_low view p l b there) b.low)

stepped : (view : JournalView) (p q : Core) (m : List Moved) (r : Result Outcome StepFault) → Begun view p → Seated q → Stepped p 0 m r q → Begun view q
stepped view p q m r b seated h =
    let s = steps_of p q m r h in
    let k = quiet p.world q.world s.enters in
    record {
      seated = seated;
      view_is = k.view_is ∙ b.view_is;
      taken = k.taken ∙ b.taken;
      arrived = k.arrived ∙ b.arrived;
      unbroken = λ n. k.breaks n ∙ b.unbroken n;
      low = low_then view p q b s.adds;
      others = λ n. s.others n ∙ b.others n;
    }

written : (view : JournalView) (p q : Core) (k : ℕ) → Begun view p → Seated q → q ≡ record p { world = record p.world { mark = k } } → Begun view q
written view p q k b seated is = by_seat seated where
  by_seat : Seated q → Begun view q
  by_seat s = (let at = subst Seated is s in
      subst (Begun view) (sym is) (record {
        seated = at;
        view_is = b.view_is;
        taken = b.taken;
        arrived = b.arrived;
        unbroken = b.unbroken;
        low =
            b.low;
        others = b.others;
      }))

mark_only : (o : Outcome) (m : List Moved) (p q : Whole) → Turned (turn.Write None) (Ok o) m p q → GoesOn (turn.Write None) p q → Marked p q
mark_only o m p q turned go = (marked (o ∷ []) m p q (q, m, [], turned, (refl, refl), none m, go)).2 where
  none : (l : List Moved) → l ≡ l ++ []
  none [] = refl
  none (x ∷ l) = ap (λ (k : List Moved). x ∷ k) (none l)

turned_on : (seats : TurnsSeat) (view : JournalView) (t : Turn) (o : Outcome) (m : List Moved) (p q : Whole) → IsRecovery t → Begun view p.core →
    Turned t (Ok o) m p q → GoesOn t p q → Begun view q.core
turned_on seats view (turn.Write most) o m p q own b turned go =
    let all : Turned (turn.Write None) (Ok o) m p q = subst (λ (z : Option ℕ). Turned (turn.Write z) (Ok o) m p q) own turned in
    let on : GoesOn (turn.Write None) p q = subst (λ (z : Option ℕ). GoesOn (turn.Write z) p q) own go in
    let k = mark_only o m p q all on in
    written view p.core q.core k.mark b (seats (turn.Write most) (Ok o) m p q b.seated go turned) k.core
turned_on seats view (turn.Step s) o m p q own b turned go =
    let step = stepped_as (λ x. Stepped p.core s m x q.core) o turned.0 turned.1 turned.2 in
    let first : Stepped p.core 0 m (Ok o) q.core = subst (λ (z : ℕ). Stepped p.core z m (Ok o) q.core) own step in
    stepped view p.core q.core m (Ok o) b (seats (turn.Step s) (Ok o) m p q b.seated go turned) first
turned_on seats view (turn.Offer x) o m p q own b turned go = absurd own
turned_on seats view (turn.Take s) o m p q own b turned go = absurd own
turned_on seats view turn.Release o m p q own b turned go = absurd own
turned_on seats view (turn.Ack id place) o m p q own b turned go = absurd own
turned_on seats view (turn.Break name) o m p q own b turned go = absurd own
turned_on seats view (turn.Clear name) o m p q own b turned go = absurd own
turned_on seats view (turn.LetGo s) o m p q own b turned go = absurd own
turned_on seats view turn.Stop o m p q own b turned go = absurd own
turned_on seats view turn.Cut o m p q own b turned go = absurd own

driven_on : (seats : TurnsSeat) (view : JournalView) (ts : List Turn) (os : List Outcome) (m : List Moved) (p q : Whole) → AllByRecursion IsRecovery ts →
    Begun view p.core → Driven ts os m p q → Begun view q.core
driven_on seats view [] [] m p q own b (none, same) = subst (λ (z : Whole). Begun view z.core) (sym same) b
driven_on seats view [] (o ∷ os) m p q own b d = absurd d
driven_on seats view (t ∷ ts) [] m p q own b d = absurd d
driven_on seats view (t ∷ ts) (o ∷ os) m p q own b (w, first, later, turned, more, all, go) =
    driven_on seats view ts os later w q own.1 (turned_on seats view t o first p w own.0 b turned go) more

-- no call is held

held_flag : (a b : Bool) (o : Option Call) (c : Call) → next_by a b o ≡ next.Held c → b ≡ true
held_flag a b None c h = absurd (cc)
held_flag true b (Some x) c h = absurd (cc)
held_flag false true (Some x) c h = refl
held_flag false false (Some x) c h = absurd (cc)

no_break : (v : Start) (past : List Event) (o : Option ℕ) → ((p : ℕ) → has_break v past p ≡ false) → on_break v past o ≡ false
no_break v past None none = refl
no_break v past (Some p) none = none p

not_held : (w : World) (o : Option ℕ) (c : Call) → ((p : ℕ) → has_break w.start w.past p ≡ false) → next_in w 0 o ≡ next.Held c → ⊥
not_held w None c none h = cc
not_held w (Some id) c none h =
    let flag = held_flag _ (is_held_at w.flow w.start w.past 0 (Some id)) _ c h in
    let on = no_break w.start w.past (participant_of (due_of w.flow (state_of w.flow w.start w.past id))) none in
    let f : is_held_at w.flow w.start w.past 0 (Some id) ≡ false = rw on refl in
    cc

finished : (view : JournalView) (c : Core) → Begun view c → IsRecovered c.world ⊎ IsHeld c.world → recovering c.world.flow c.world.start c.world.past ≡ None
finished view c b (inl done) = done.finished
finished view c b (inr (call, held)) = absurd (not_held c.world (held_id c.world 0) call b.unbroken held)

-- at rest

free_zero : (w : World) → recovering w.flow w.start w.past ≡ None → takes w.past ≡ 0 → held_id w 0 ≡ None
free_zero w none start = let took = none_taken w.start w.past 0 start in rw (none, took) refl

idle_all : (view : JournalView) (c : Core) → Begun view c → recovering c.world.flow c.world.start c.world.past ≡ None → (s : ℕ) → held_id c.world s ≡ None
idle_all view c b none zero = free_zero c.world none b.taken
idle_all view c b none (suc s) = sym (b.seated.seats (suc s)) ∙ ap seat_id (b.others s)

no_waits : (w : World) → takes w.past ≡ 0 → arrivals w.flow w.start w.past ≡ [] → waits w ≡ []
no_waits w start none = rw (start, none) refl

pub recovers : (seats : TurnsSeat) (f : Flow) (n : ℕ) (j : Seen) (view : JournalView) (id : Progress) (ts : List Turn) (os us : List Outcome)
    (m k : List Moved) (p q r : Whole)
    → IsMade f n view j p → Seated p.core → id.last ≡ view.next_id - 1 → AllByRecursion IsRecovery ts → Driven ts os m p q →
    IsRecovered q.core.world ⊎ IsHeld q.core.world → Driven (turn.Write None ∷ []) us k q r
    → Recovers (record { plant = p; answered = id }) (record { plant = r; answered = id })
recovers seats f n j view id ts os us m k p q r made seated begins own first over second =
    let b = driven_on seats view ts os m p q own (begun_new f n view j p made seated) first in
    let none = finished view q.core b over in
    let (u, alone, mark) = marked us k q r second in
    let e = driven_on seats view (turn.Write None ∷ []) us k q r (refl, tt) b second in
    let still : recovering r.core.world.flow r.core.world.start r.core.world.past ≡ None =
    subst (λ (c : Core). recovering c.world.flow c.world.start c.world.past ≡ None) (sym mark.core) none in
    let start = e.taken in
    let ordered = e.seated.engine.start.view.ordered in
    let one : 1 ≤ view.next_id = subst (λ (v : JournalView). 1 ≤ v.next_id) e.view_is ordered.next in
    let same : r.core.world.start.view.next_id ≡ view.next_id = ap (λ (v : JournalView). v.next_id) e.view_is in
    record {
      turns = ts;
      outcomes = os;
      wrote = u;
      own = own;
      acts = subst (λ (l : List Outcome). Acts (Done ts os ∷ Done (turn.Write None ∷ []) l ∷ []) (record { plant = p; answered = id })
          (record { plant = r; answered = id })) alone
          (acts_then (Done ts os ∷ []) (Done (turn.Write None ∷ []) us ∷ []) _ (record { plant = q; answered = id }) _ (acts_once ts os m p q id first)
          (acts_once (turn.Write None ∷ []) us k q r id second));
      rest = record {
        seated = e.seated;
        idle = idle_all view r.core e still;
        written = mark.written;
        given = ap (λ (z : ℕ). above z r.core.ended) begins ∙ none_above_below view.next_id r.core.ended e.low;
        below = omega (arith, begins, one, same);
      };
      recovered = still;
      empty = no_waits r.core.world start e.arrived;
    }

-- the view that a new plant was made on
pub made_view : (f : Flow) (n : ℕ) (view : JournalView) (j : Seen) (p : Whole) → IsMade f n view j p → p.core.world.start.view ≡ view
made_view f n view j p made =
    let gives = gives_by (seat_of made.opened.first 0) (newcomer made.opened.first) made.opened.first p.core made.opened.reseats in
    ap (λ (w : World). w.start.view) (gives.world ∙ made.opened.is_fresh.world)
