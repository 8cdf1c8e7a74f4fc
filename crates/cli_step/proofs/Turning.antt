-- What each turn does to the history, by its outcome.
-- for: turns::drive_one, turns::do_turn
use Rattle.std.proofs.Common.{◌≡◌, ◌∷◌, ◌++◌, ◌∙◌, ℕ, [], List, Result, Ok, Err, Option, Some, None, false, length, refl, ap, append-nil, sym, arith}
use Rattle.std.specs.declared.alloc.AllocError.{AllocError}
use Rattle.std.specs.Prelude.{◌⊎◌}
use Rattle.std.proofs.Common.{inl, inr}
use Rattle.tx_history.specs.declared.event.Event.{Event}
use Rattle.tx_history.specs.declared.event.Event.TheVariants as event
use Rattle.tx_engine.specs.World.{World, happened}
use Rattle.tx_plant.specs.Core.{Core, Stepped, Stood, seat_of}
use Rattle.tx_engine.specs.Calls.{next_of, next_refusal}
use Rattle.tx_engine.specs.declared.error.EngineError.{EngineError}
use Rattle.tx_plant.specs.Plant.{Driven, Logged, Raises, Seen, Stops, Turned, Whole, Writes, raised}
use Rattle.tx_plant.specs.Steps.{Moved, Serves, Waits, event_of}
use Rattle.tx_plant.specs.Turns.{Cuts, IsLogged, Logs, Takes, event_for, refusal_for}
use Rattle.tx_plant.specs.declared.seat.Seat.{Seat}
use Rattle.tx_plant.specs.declared.turn.Outcome.{Outcome}
use Rattle.tx_plant.specs.declared.turn.Outcome.TheVariants as outcome
use Rattle.tx_plant.specs.declared.turn.Turn.{Turn}
use Rattle.tx_plant.specs.declared.turn.Turn.TheVariants as turn
use Rattle.tx_trace.specs.Follow.{Follows}
use Rattle.tx_trace.specs.declared.tracer.Tracer.{Tracer}
use Rattle.cli_step.specs.Doing.{IsAhead, IsWorldAfter, is_fresh}
use Rattle.tx_plant.proofs.Outcomes.{same_outcome, unfaulted, stepped_as}

-- one turn has one outcome
pub one_driven : (t : Turn) (os : List Outcome) (m : List Moved) (p q : Whole) → Driven (t ∷ []) os m p q
    → (o : Outcome) × (os ≡ o ∷ []) × Turned t (Ok o) m p q
one_driven t [] m p q driven = absurd driven
one_driven t (o ∷ []) m p q driven =
    let all : m ≡ driven.1 = driven.5 ∙ ap (λ later. driven.1 ++ later) driven.4.0 ∙ append-nil driven.1 in
    (o, refl, rw (all, driven.4.1) driven.3)
one_driven t (o ∷ x ∷ os) m p q driven = absurd driven.4

world_same : (p q : Core) → q ≡ p → q.world ≡ p.world
world_same p q same = ap (λ (c : Core). c.world) same

taken : (p q : Core) (s : ℕ) (m : List Moved) (o : Outcome) → Takes p s m (Ok o) q → IsWorldAfter o p.world q.world
taken p q s m (outcome.Accepted n) k = (event.Taken s, k.recorded)
taken p q s m (outcome.Refused e) k = world_same p q k.1.1
taken p q s m outcome.Idle k = absurd k
taken p q s m outcome.Unwritten k = absurd k
taken p q s m (outcome.Held call) k = absurd k
taken p q s m (outcome.Written n) k = absurd k
taken p q s m (outcome.Restarted n) k = tt
taken p q s m (outcome.Cut n) k = tt

-- nothing was done
abbrev Rested : World → ℕ → Option Seat → Outcome → Type 0
Rested w s seat o = ((e : EngineError) × (next_refusal w s ≡ Some e) × (o ≡ outcome.Refused e)) ⊎ ((seat ≡ None) × Waits (next_of w s) o)

rested : (w to : World) (s : ℕ) (seat : Option Seat) (o : Outcome) → to ≡ w → Rested w s seat o → IsWorldAfter o w to
rested w to s seat (outcome.Accepted n) same (inl k) = cc
rested w to s seat (outcome.Accepted n) same (inr k) = absurd k.1
rested w to s seat (outcome.Refused e) same k = same
rested w to s seat outcome.Idle same k = same
rested w to s seat outcome.Unwritten same k = same
rested w to s seat (outcome.Held call) same k = same
rested w to s seat (outcome.Written n) same (inl k) = cc
rested w to s seat (outcome.Written n) same (inr k) = absurd k.1
rested w to s seat (outcome.Restarted n) same k = tt
rested w to s seat (outcome.Cut n) same k = tt

stood : (p q : Core) (s : ℕ) (m : List Moved) (o : Outcome) → Stood p s m (Ok o) q → IsWorldAfter o p.world q.world
stood p q s m o k =
    let same : o ≡ k.1 = same_outcome o k.1 k.2 in
    rested p.world q.world s (seat_of p s) o (world_same p q k.0.1) (rw (sym same) at k.3)

served_by : (w to : World) (s : ℕ) (l t : Seat) (m : List Moved) (o : Outcome) → Serves w s l t m (Ok o) to → IsWorldAfter o w to
served_by w to s l t m (outcome.Accepted n) k = (event_of s k.1 k.0.context, k.4)
served_by w to s l t m (outcome.Refused e) (inl k) = k.3
served_by w to s l t m (outcome.Refused e) (inr k) = k.2.1
served_by w to s l t m outcome.Idle k = k.3
served_by w to s l t m outcome.Unwritten k = k.3
served_by w to s l t m (outcome.Held call) k = k.3
served_by w to s l t m (outcome.Written n) k = absurd k.1
served_by w to s l t m (outcome.Restarted n) k = tt
served_by w to s l t m (outcome.Cut n) k = tt

stepped : (p q : Core) (s : ℕ) (m : List Moved) (o : Outcome) → Stepped p s m (Ok o) q → IsWorldAfter o p.world q.world
stepped p q s m o (inl k) = stood p q s m o k
stepped p q s m o (inr k) = served_by p.world q.world s k.before k.after m o k.serves

written : (most : Option ℕ) (w to : World) (j l : Seen) (o : Outcome) → Writes most w j (Ok o) to l → IsWorldAfter o w to
written most w to j l (outcome.Accepted n) k = absurd k
written most w to j l (outcome.Refused e) k = absurd k
written most w to j l outcome.Idle k = absurd k
written most w to j l outcome.Unwritten k = absurd k
written most w to j l (outcome.Held call) k = absurd k
written most w to j l (outcome.Written n) k = k.1
written most w to j l (outcome.Restarted n) k = tt
written most w to j l (outcome.Cut n) k = tt

stopped : (m : List Moved) (p q : Whole) (o : Outcome) → Stops m p (Ok o) q → IsWorldAfter o p.core.world q.core.world
stopped m p q (outcome.Accepted n) k = absurd k
stopped m p q (outcome.Refused e) k = world_same p.core q.core k.0.1
stopped m p q outcome.Idle k = absurd k
stopped m p q outcome.Unwritten k = absurd k
stopped m p q (outcome.Held call) k = absurd k
stopped m p q (outcome.Written n) k = absurd k
stopped m p q (outcome.Restarted n) k = tt
stopped m p q (outcome.Cut n) k = tt

cut : (w to : World) (o : Outcome) → Cuts w (Ok o) to → IsWorldAfter o w to
cut w to (outcome.Accepted n) k = absurd k
cut w to (outcome.Refused e) k = k.1
cut w to outcome.Idle k = absurd k
cut w to outcome.Unwritten k = absurd k
cut w to (outcome.Held call) k = absurd k
cut w to (outcome.Written n) k = absurd k
cut w to (outcome.Restarted n) k = tt
cut w to (outcome.Cut n) k = tt

logged : (ev : Option Event) (refusal : Option EngineError) (w to : World) (o : Outcome) → Logs ev refusal w (Ok o) to → IsWorldAfter o w to
logged (Some ev) refusal w to (outcome.Accepted n) k = (ev, k.1)
logged (Some ev) refusal w to (outcome.Refused e) k = k.1
logged (Some ev) refusal w to outcome.Idle k = absurd k
logged (Some ev) refusal w to outcome.Unwritten k = absurd k
logged (Some ev) refusal w to (outcome.Held call) k = absurd k
logged (Some ev) refusal w to (outcome.Written n) k = absurd k
logged (Some ev) refusal w to (outcome.Restarted n) k = tt
logged (Some ev) refusal w to (outcome.Cut n) k = tt
logged None refusal w to (outcome.Accepted n) k = absurd k
logged None refusal w to (outcome.Refused e) k = k.1
logged None refusal w to outcome.Idle k = absurd k
logged None refusal w to outcome.Unwritten k = absurd k
logged None refusal w to (outcome.Held call) k = absurd k
logged None refusal w to (outcome.Written n) k = absurd k
logged None refusal w to (outcome.Restarted n) k = tt
logged None refusal w to (outcome.Cut n) k = tt

unraised : (R : Result Outcome AllocError → Type 0) (o : Outcome) (p q : Whole) → Raises R (Ok o) p q → R (Ok o)
unraised R o p q k = raised_ok k.0 k.1 k.2 where
  raised_ok : (x : Result Outcome AllocError) → Ok o ≡ raised x → R x → R (Ok o)
  raised_ok (Ok y) same holds = rw (same_outcome o y same) holds
  raised_ok (Err e) same holds = cc

event_logged : (t : Turn) (o : Outcome) (m : List Moved) (p q : Whole) → Logged t m p (Ok o) q
    → IsWorldAfter o p.core.world q.core.world
event_logged t o m p q k =
    logged (event_for p.core.world t) (refusal_for p.core.world t) p.core.world q.core.world o
    (unraised (λ x. IsLogged p.core.world t x q.core.world) o p q k.2)

-- what a turn is to the history
pub world_after : (t : Turn) (o : Outcome) (m : List Moved) (p q : Whole) → Turned t (Ok o) m p q
    → IsWorldAfter o p.core.world q.core.world
world_after (turn.Take s) o m p q k = taken p.core q.core s m o (unraised (λ x. Takes p.core s m x q.core) o p q k)
world_after (turn.Step s) o m p q k = stepped p.core q.core s m o (stepped_as (λ x. Stepped p.core s m x q.core) o k.0 k.1 k.2)
world_after (turn.Write most) o m p q k =
    written most p.core.world q.core.world p.journal q.journal o
    (unfaulted (λ x. Writes most p.core.world p.journal x q.core.world q.journal) o k.2 k.3 k.4)
world_after turn.Stop o m p q k = stopped m p q o k
world_after turn.Cut o m p q k = cut p.core.world q.core.world o (unraised (λ x. Cuts p.core.world x q.core.world) o p q k.2)
world_after (turn.Offer x) o m p q k = event_logged (turn.Offer x) o m p q k
world_after turn.Release o m p q k = event_logged turn.Release o m p q k
world_after (turn.Ack id place) o m p q k = event_logged (turn.Ack id place) o m p q k
world_after (turn.Break name) o m p q k = event_logged (turn.Break name) o m p q k
world_after (turn.Clear name) o m p q k = event_logged (turn.Clear name) o m p q k
world_after (turn.LetGo s) o m p q k = event_logged (turn.LetGo s) o m p q k

-- a tracer goes on where the history does not begin anew
pub goes_on : ((w : World) (t : Tracer) (e : Event) → Follows w t → Follows (happened w e) t)
    → (t : Tracer) (o : Outcome) (w to : World) → IsWorldAfter o w to → is_fresh o ≡ false → Follows w t → Follows to t
goes_on entry t (outcome.Accepted n) w to k old f = rw k.1.history (entry w t k.0 f)
goes_on entry t (outcome.Refused e) w to k old f = rw k f
goes_on entry t outcome.Idle w to k old f = rw k f
goes_on entry t outcome.Unwritten w to k old f = rw k f
goes_on entry t (outcome.Held call) w to k old f = rw k f
goes_on entry t (outcome.Written n) w to k old f = rw k (record { within = f.within; tracks = f.tracks })
goes_on entry t (outcome.Restarted n) w to k old f = cc
goes_on entry t (outcome.Cut n) w to k old f = cc

-- and has not gone through a new entry
pub ahead : (t : Tracer) (o : Outcome) (w to : World) → IsWorldAfter o w to → Follows w t → IsAhead t o
ahead t (outcome.Accepted n) w to k f =
    let number = k.1.number_is in let within = f.within in omega arith
ahead t (outcome.Refused e) w to k f = tt
ahead t outcome.Idle w to k f = tt
ahead t outcome.Unwritten w to k f = tt
ahead t (outcome.Held call) w to k f = tt
ahead t (outcome.Written n) w to k f = tt
ahead t (outcome.Restarted n) w to k f = tt
ahead t (outcome.Cut n) w to k f = tt

only_one : (xs : List Outcome) (x y : Outcome) → xs ++ (x ∷ []) ≡ y ∷ [] → x ≡ y
only_one [] x y same = cc
only_one (z ∷ []) x y same = cc
only_one (z ∷ w ∷ ws) x y same = cc

-- the last outcome of a single turn is that turn's
pub last_driven : (t : Turn) (os xs : List Outcome) (o : Outcome) (m : List Moved) (p q : Whole) → Driven (t ∷ []) os m p q → os ≡ xs ++ (o ∷ [])
    → Turned t (Ok o) m p q
last_driven t os xs o m p q driven last =
    let one = one_driven t os m p q driven in
    rw (only_one xs o one.0 (sym last ∙ one.1)) one.2

-- and one turn has an outcome
pub none_driven : (t : Turn) (os : List Outcome) (m : List Moved) (p q : Whole) → Driven (t ∷ []) os m p q → length os ≡ 0 → ⊥
none_driven t [] m p q driven none = driven
none_driven t (o ∷ os) m p q driven none = absurd (omega arith)
