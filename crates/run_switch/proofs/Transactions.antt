-- One transaction, from its take to its end.
-- for: switch::Switch::run_next, switch::Switch::answer_next
use Rattle.std.proofs.Common.{◌≡◌, ℕ, zero, suc, ◌+◌, ◌==◌, Bool, true, false, inl, inr, List, [], ◌∷◌, ◌++◌, map, drop, Option, Some, None, Ok, refl, sym, ap}
use Rattle.std.proofs.Common.{subst, arith, ◌∙◌}
use Rattle.std.specs.Prelude.{◌⊎◌, is_some, nat_lt}
use Rattle.std.specs.declared.cmp.Ordering.{Ordering}
use Rattle.std.specs.declared.cmp.Ordering.TheVariants.{Less, Equal, Greater}
use Rattle.std.specs.Ordering.{match_ordering, nat_cmp}
use Rattle.std.specs.BTreeMap.{insert_entry}
use Rattle.std.proofs.lemmas.Bool.Decides.{nat_tests}
use Rattle.std.proofs.lemmas.List.{drop-drop, map-append}
use Rattle.sw_base.specs.Refusals.{or_else, refused_if}
use Rattle.sw_context.specs.Pairs.{Pairs}
use Rattle.sw_participant.specs.declared.call.Reply.{Reply}
use Rattle.sw_participant.specs.declared.call.Reply.TheVariants as reply
use Rattle.tx_history.specs.declared.event.Event.TheVariants.{Taken as TakenBy}
use Rattle.tx_history.specs.declared.journal.Row.{Row}
use Rattle.tx_history.specs.declared.journal.WaitingContext.{WaitingContext}
use Rattle.tx_history.specs.History.{arrivals, next_id, recovering, taken, takes}
use Rattle.tx_history.specs.Journal.{change}
use Rattle.tx_history.proofs.OwnItems.{holds_serves}
use Rattle.tx_history.proofs.Sessions.{recovered_stays}
use Rattle.tx_engine.specs.World.{World, happened}
use Rattle.tx_engine.specs.Calls.{held_id, take_refusal, waits}
use Rattle.tx_plant.specs.declared.seat.Seat.{Seat}
use Rattle.tx_plant.specs.declared.turn.Outcome.{Outcome}
use Rattle.tx_plant.specs.declared.turn.Outcome.TheVariants as outcome
use Rattle.tx_plant.specs.declared.turn.Turn.TheVariants as turn
use Rattle.tx_plant.specs.Core.{Core, Stepped, ended_by, fate_by, new_seat, seat_of}
use Rattle.tx_plant.specs.Plant.{IsEngine}
use Rattle.tx_plant.specs.Steps.{Moved, event_of}
use Rattle.tx_plant.specs.Turns.{Taken, Takes}
use Rattle.tx_seats.specs.Drives.{Drive}
use Rattle.tx_seats.specs.Seated.{Seated, seat_id}
use Rattle.run_switch.specs.Points.{IsAllWritten, IsAtRest, Point, ended_at, next_at, with_ended, world_at}
use Rattle.run_switch.specs.Rounds.{Acts, Does, IsDone, Transacts, doing}
use Rattle.run_switch.proofs.Doings.{acts_then, did, unraised}
use Rattle.run_switch.proofs.SessionSteps.{Enters, none_due, none_held, other_seats, same_world, steps_of}
use Rattle.tx_plant.proofs.Outcomes.{stepped_as}

-- the contexts that ended

cmp_self : (n : ℕ) → nat_cmp n n ≡ Equal
cmp_self n = let t : nat_lt n n ≡ false = grind (arith, nat_tests) in let u : (n == n) ≡ true = grind (arith, nat_tests) in rw (t, u) refl

insert_twice : (n : ℕ) (x y : Pairs) (es : List (ℕ × Pairs)) → insert_entry nat_cmp (insert_entry nat_cmp es n x) n y ≡ insert_entry nat_cmp es n y
insert_twice n x y [] = rw (cmp_self n) refl
insert_twice n x y (e ∷ es) = by_order (nat_cmp n e.0) refl (insert_twice n x y es) where
  by_order : (r : Ordering) → nat_cmp n e.0 ≡ r → insert_entry nat_cmp (insert_entry nat_cmp es n x) n y ≡ insert_entry nat_cmp es n y
      → insert_entry nat_cmp (match_ordering r ((n, x) ∷ e ∷ es) ((e.0, x) ∷ es) (e ∷ insert_entry nat_cmp es n x)) n y ≡ match_ordering r ((n, y) ∷ e ∷ es)
      ((e.0, y) ∷ es) (e ∷ insert_entry nat_cmp es n y)
  by_order Less is ih = rw (cmp_self n) refl
  by_order Equal is ih = rw is refl
  by_order Greater is ih = rw is (ap (λ (l : List (ℕ × Pairs)). e ∷ l) ih)

last_ended : Option Pairs → Option Pairs → Option Pairs
last_ended None o = o
last_ended (Some x) o = Some x

ended_twice : (n : ℕ) (o u : Option Pairs) (es : List (ℕ × Pairs)) → (z : Option Pairs) × (with_ended n u (with_ended n o es) ≡ with_ended n z es)
ended_twice n o None es = (o, refl)
ended_twice n None (Some y) es = (Some y, refl)
ended_twice n (Some x) (Some y) es = (Some y, insert_twice n x y es)

-- a step of the session that took the transaction of this id last

record GoesOn (w to : World) : Type 0 where
  waits : waits to ≡ waits w
  next : next_id to.start to.past ≡ next_id w.start w.past
  taken : taken to.start to.past 0 ≡ taken w.start w.past 0
  recovered : recovering to.flow to.start to.past ≡ None

goes_on_same : (w to : World) → to ≡ w → recovering w.flow w.start w.past ≡ None → GoesOn w to
goes_on_same w to same none = rw same (record { waits = refl; next = refl; taken = refl; recovered = none })

goes_on_by : (w : World) (r : Reply) (x : Pairs) → IsEngine (happened w (event_of 0 r x)) → recovering w.flow w.start w.past ≡ None →
    GoesOn w (happened w (event_of 0 r x))
goes_on_by w (reply.Answer byte) x engine none =
    record {
      waits = refl;
      next = refl;
      taken = refl;
      recovered = recovered_stays w.flow w.start w.past (event_of 0 (reply.Answer byte) x)
          engine.start.view.ordered engine.lawful.lawful.0 none;
    }
goes_on_by w (reply.Chosen text) x engine none =
    record {
      waits = refl;
      next = refl;
      taken = refl;
      recovered = recovered_stays w.flow w.start w.past (event_of 0 (reply.Chosen text) x)
          engine.start.view.ordered engine.lawful.lawful.0 none;
    }
goes_on_by w (reply.Told advice) x engine none =
    record {
      waits = refl;
      next = refl;
      taken = refl;
      recovered = recovered_stays w.flow w.start w.past (event_of 0 (reply.Told advice) x)
          engine.start.view.ordered engine.lawful.lawful.0 none;
    }
goes_on_by w reply.Recovered x engine none =
    record {
      waits = refl;
      next = refl;
      taken = refl;
      recovered =
          recovered_stays w.flow w.start w.past (event_of 0 reply.Recovered x) engine.start.view.ordered engine.lawful.lawful.0 none;
    }

goes_on : (w to : World) → IsEngine to → recovering w.flow w.start w.past ≡ None → Enters 0 w to → GoesOn w to
goes_on w to engine none (inl same) = goes_on_same w to same none
goes_on w to engine none (inr (r, x, is)) = subst (GoesOn w) (sym is) (goes_on_by w r x (subst IsEngine is engine) none)

-- session 0 holds the transaction that it took last, if it holds one

some_same : (i j : ℕ) → ◌≡◌ {A = Option ℕ} (Some i) (Some j) → i ≡ j
some_same i j e = cc

seat_is : (p : Core) (n : ℕ) (l : Seat) → Seated p → recovering p.world.flow p.world.start p.world.past ≡ None →
    taken p.world.start p.world.past 0 ≡ Some n → seat_of p 0 ≡ Some l → l.id ≡ n
seat_is p n l seated none took there =
    let held : held_id p.world 0 ≡ Some l.id = sym (seated.seats 0) ∙ ap seat_id there in
    let serves = (holds_serves p.world.flow p.world.start p.world.past 0 l.id held).0 in
    some_same l.id n (sym (let s : taken p.world.start p.world.past 0 ≡ Some l.id = rw none at serves in s) ∙ took)

-- what was done so far of the transaction that session 0 took
pub record Under (p q : Point) : Type 0 where
  pub took : Outcome × Outcome
  pub steps : List (Outcome × Outcome)
  pub acts : Acts (doing (turn.Take 0) took ∷ map (doing (turn.Step 0)) steps) p q
  pub allowed : take_refusal (world_at p) 0 ≡ None
  pub queue : waits (world_at q) ≡ drop 1 (waits (world_at p))
  pub next : next_at q ≡ next_at p + 1
  pub taken : taken (world_at q).start (world_at q).past 0 ≡ Some (next_at p)
  pub recovered : recovering (world_at q).flow (world_at q).start (world_at q).past ≡ None
  pub others : (s : ℕ) → seat_of q.plant.core (suc s) ≡ seat_of p.plant.core (suc s)
  pub own : Option Pairs
  pub ended : ended_at q ≡ with_ended (next_at p) own (ended_at p)
  pub seated : Seated q.plant.core
  pub written : IsAllWritten (world_at q)

-- the take

second_none : {E : Type 0} (a b : Bool) (x y : E) (rest : Option E) → or_else (refused_if a x) (or_else (refused_if b y) rest) ≡ None → b ≡ false
second_none true b x y rest h = absurd (cc)
second_none false true x y rest h = absurd (cc)
second_none false false x y rest h = refl

none_there : (o : Option ℕ) → is_some o ≡ false → o ≡ None
none_there None h = refl
none_there (Some x) h = absurd (cc)

recovered_then : (w : World) → take_refusal w 0 ≡ None → recovering w.flow w.start w.past ≡ None
recovered_then w h = none_there (recovering w.flow w.start w.past) (second_none _ (is_some (recovering w.flow w.start w.past)) _ _ _ h)

ended_new : (row : Option (ℕ × Option Row)) (item : Option (ℕ × WaitingContext)) (n : ℕ) (x : Pairs) (es : List (ℕ × Pairs)) →
    (z : Option Pairs) × (ended_by (fate_by row item) (new_seat (n, x)) es ≡ with_ended n z es)
ended_new None item n x es = (None, refl)
ended_new (Some (k, Some r)) item n x es = (None, refl)
ended_new (Some (k, None)) None n x es = (Some x, refl)
ended_new (Some (k, None)) (Some y) n x es = (None, refl)

record Begun (p q : Core) (n : ℕ) : Type 0 where
  allowed : take_refusal p.world 0 ≡ None
  waits : waits q.world ≡ drop 1 (waits p.world)
  next : next_id q.world.start q.world.past ≡ next_id p.world.start p.world.past + 1
  taken : taken q.world.start q.world.past 0 ≡ Some n
  recovered : recovering q.world.flow q.world.start q.world.past ≡ None
  others : (s : ℕ) → seat_of q (suc s) ≡ seat_of p (suc s)
  own : Option Pairs
  ended : q.ended ≡ with_ended n own p.ended

record BegunWorld (w to : World) : Type 0 where
  waits : waits to ≡ drop 1 (waits w)
  next : next_id to.start to.past ≡ next_id w.start w.past + 1
  taken : taken to.start to.past 0 ≡ Some (next_id w.start w.past)
  recovered : recovering to.flow to.start to.past ≡ None

begun_world : (w : World) → recovering w.flow w.start w.past ≡ None → BegunWorld w (happened w (TakenBy 0))
begun_world w none = record { waits = sym (drop-drop 1 (takes w.past) (arrivals w.flow w.start w.past)); next = omega arith; taken = refl; recovered = none }

begun : (p q : Core) (k : ℕ) (m : List Moved) → Taken p 0 k m q → Begun p q (next_id p.world.start p.world.past)
begun p q k m t =
    let n = next_id p.world.start p.world.past in
    let w : BegunWorld p.world q.world = subst (BegunWorld p.world) (sym t.recorded.history) (begun_world p.world (recovered_then p.world t.allowed)) in
    let c = change q.world.flow q.world.start q.world.past in
    let ends = ended_new c.row c.shelved t.id t.context p.ended in
    record {
      allowed = t.allowed;
      waits = w.waits;
      next = w.next;
      taken = w.taken;
      recovered = w.recovered;
      others = λ s. ap (λ (c : Core). seat_of c (suc s)) t.leaves ∙ other_seats p.seats _ s;
      own = ends.0;
      ended = ap (λ (c : Core). c.ended) t.leaves ∙ (ends.1 ∙ ap (λ (i : ℕ). with_ended i ends.0 p.ended) t.id_is);
    }

begun_by : (p q : Core) (m : List Moved) (o : Outcome) → Takes p 0 m (Ok o) q → IsDone o → Begun p q (next_id p.world.start p.world.past)
begun_by p q m (outcome.Accepted n) h done = begun p q n m h
begun_by p q m (outcome.Refused e) h done = absurd done
begun_by p q m outcome.Idle h done = absurd h
begun_by p q m outcome.Unwritten h done = absurd h
begun_by p q m (outcome.Held c) h done = absurd h
begun_by p q m (outcome.Written n) h done = absurd h
begun_by p q m (outcome.Restarted n) h done = absurd h
begun_by p q m (outcome.Cut n) h done = absurd h

begun_marked : (p b q : Core) (n k : ℕ) → Begun p b n → q ≡ record b { world = record b.world { mark = k } } → Begun p q n
begun_marked p b q n k h is = subst (λ (c : Core). Begun p c n) (sym is) (record {
  allowed = h.allowed;
  waits = h.waits;
  next = h.next;
  taken =
      h.taken;
  recovered = h.recovered;
  others = h.others;
  own = h.own;
  ended = h.ended;
})

pub took : (p q : Point) (o : Outcome) → Does (turn.Take 0) o p q → Seated q.plant.core → Under p q
took p q o does seated =
    let d = did (turn.Take 0) o p q does in
    let takes : Takes p.plant.core 0 d.moved (Ok o) d.between.core = unraised (λ x. Takes p.plant.core 0 d.moved x d.between.core) o d.turned.0 d.turned.1
    d.turned.2 in
    let b = begun_marked p.plant.core d.between.core q.plant.core (next_at p) d.mark (begun_by p.plant.core d.between.core d.moved o takes does.done) d.core in
    record {
      took = (o, does.wrote);
      steps = [];
      acts = does.acts;
      allowed = b.allowed;
      queue = b.waits;
      next = b.next;
      taken = b.taken;
      recovered = b.recovered;
      others = b.others;
      own = b.own;
      ended = b.ended;
      seated = seated;
      written = does.written;
    }

-- a step

record Stays (n : ℕ) (p q : Core) : Type 0 where
  world : GoesOn p.world q.world
  others : (s : ℕ) → seat_of q (suc s) ≡ seat_of p (suc s)
  own : Option Pairs
  ended : q.ended ≡ with_ended n own p.ended

adds_own : (n : ℕ) (p q : Core) → ((l : Seat) → seat_of p 0 ≡ Some l → l.id ≡ n) →
    (q.ended ≡ p.ended) ⊎ ((l : Seat) × (x : Pairs) × (seat_of p 0 ≡ Some l) × (q.ended ≡ insert_entry nat_cmp p.ended l.id x)) →
    (o : Option Pairs) × (q.ended ≡ with_ended n o p.ended)
adds_own n p q own (inl same) = (None, same)
adds_own n p q own (inr (l, x, there, more)) = (Some x, more ∙ ap (λ (i : ℕ). insert_entry nat_cmp p.ended i x) (own l there))

stays : (p b q : Core) (n k : ℕ) (m : List Moved) (o : Outcome) → Seated p → recovering p.world.flow p.world.start p.world.past ≡ None →
    taken p.world.start p.world.past 0 ≡ Some n → Stepped p 0 m (Ok o) b → IsEngine b.world → q ≡ record b { world = record b.world { mark = k } }
    → Stays n p q
stays p b q n k m o seated none took stepped engine is =
    let s = steps_of p b m (Ok o) stepped in
    let w = goes_on p.world b.world engine none s.enters in
    let own = adds_own n p b (λ l there. seat_is p n l seated none took there) s.adds in
    subst (Stays n p) (sym is) (record {
      world = record { waits = w.waits; next = w.next; taken = w.taken; recovered = w.recovered };
      others =
          s.others;
      own = own.0;
      ended = own.1;
    })

one_more : (os : List (Outcome × Outcome)) (t : Outcome × Outcome) (o : Outcome × Outcome) → (doing (turn.Take 0) t ∷ map (doing (turn.Step 0)) os)
    ++ doing (turn.Step 0) o ∷ [] ≡ doing (turn.Take 0) t ∷ map (doing (turn.Step 0)) (os ++ o ∷ [])
one_more os t o = ap (λ (l : List Drive). doing (turn.Take 0) t ∷ l) (sym (map-append (doing (turn.Step 0)) os (o ∷ [])))

pub stepped : (p q r : Point) (o : Outcome) → Under p q → Does (turn.Step 0) o q r → Seated r.plant.core → Under p r
stepped p q r o u does seated =
    let d = did (turn.Step 0) o q r does in
    let step : Stepped q.plant.core 0 d.moved (Ok o) d.between.core = stepped_as (λ x. Stepped q.plant.core 0 d.moved x d.between.core) o d.turned.0
    d.turned.1 d.turned.2 in
    let s = stays q.plant.core d.between.core r.plant.core (next_at p) d.mark d.moved o u.seated u.recovered u.taken step d.on.engine d.core in
    let twice = ended_twice (next_at p) u.own s.own (ended_at p) in
    record {
      took = u.took;
      steps = u.steps ++ (o, does.wrote) ∷ [];
      acts = subst (λ (l : List Drive). Acts l p r) (one_more u.steps u.took (o, does.wrote)) (acts_then _ _ p q r u.acts does.acts);
      allowed = u.allowed;
      queue = s.world.waits ∙ u.queue;
      next = s.world.next ∙ u.next;
      taken = s.world.taken ∙ u.taken;
      recovered = s.world.recovered;
      others = λ k. s.others k ∙ u.others k;
      own = twice.0;
      ended = s.ended ∙ (ap (with_ended (next_at p) s.own) u.ended ∙ twice.1);
      seated = seated;
      written = does.written;
    }

-- the last step finds the session idle

idle_then : (p q r : Point) → Under p q → Does (turn.Step 0) outcome.Idle q r → held_id (world_at r) 0 ≡ None
idle_then p q r u does =
    let d = did (turn.Step 0) outcome.Idle q r does in
    let step : Stepped q.plant.core 0 d.moved (Ok outcome.Idle) d.between.core =
    stepped_as (λ x. Stepped q.plant.core 0 d.moved x d.between.core) outcome.Idle d.turned.0 d.turned.1 d.turned.2 in
    let none = none_held (world_at q) 0 (none_due q.plant.core d.between.core d.moved step) in
    let same : d.between.core.world ≡ world_at q = same_world q.plant.core d.between.core d.moved step in
    let here : held_id (record d.between.core.world { mark = d.mark }) 0 ≡ None = subst (λ (w : World). held_id w 0 ≡ None) (sym same) none in
    subst (λ (c : Core). held_id c.world 0 ≡ None) (sym d.core) here

all_idle : (p r : Point) → IsAtRest p → Seated r.plant.core → ((s : ℕ) → seat_of r.plant.core (suc s) ≡ seat_of p.plant.core (suc s)) →
    held_id (world_at r) 0 ≡ None → (s : ℕ) → held_id (world_at r) s ≡ None
all_idle p r rest seated others first zero = first
all_idle p r rest seated others first (suc s) = sym (seated.seats (suc s)) ∙ (ap seat_id (others s) ∙ (rest.seated.seats (suc s) ∙ rest.idle (suc s)))

pub transacted : (p q r : Point) (o : Outcome) → IsAtRest p → o ≡ outcome.Idle → Under p q → Does (turn.Step 0) o q r → Seated r.plant.core →
    (own : Option Pairs) × Transacts p own r
transacted p q r o rest is u does seated =
    let idle : Does (turn.Step 0) outcome.Idle q r = subst (λ (z : Outcome). Does (turn.Step 0) z q r) is does in
    let last = stepped p q r outcome.Idle u idle seated in (
      last.own,
      record {
        took = last.took;
        steps = last.steps;
        acts = last.acts;
        allowed = last.allowed;
        queue = last.queue;
        next = last.next;
        ended = last.ended;
        idle = all_idle p r rest seated last.others (idle_then p q r u idle);
        written = last.written;
      },
    )
