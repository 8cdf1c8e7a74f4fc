-- A turn that is one entry of the engine, and no session's own.
-- for: laws::turns_are_moves
use Rattle.std.proofs.Common.{◌≡◌, inl, inr, ℕ, List, [], ◌∷◌, ◌++◌, Option, Result, refl, sym, ◌∙◌, ap, subst}
use Rattle.flow_model.specs.declared.flow.Flow.{Flow}
use Rattle.outcome_calls.specs.Core.{PlantDeed}
use Rattle.outcome_calls.specs.Plant as plant
use Rattle.outcome_calls.specs.Plant.{SessionEvent, AbstractPlant, PlantFits}
use Rattle.outcome_calls.proofs.PlantMoves.{ran}
use Rattle.outcome_calls.proofs.Turns.{IsRunOf, none_small, one_small}
use Rattle.tx_history.specs.declared.event.Event.{Event}
use Rattle.tx_history.specs.declared.event.Event.TheVariants.{Offered, Taken, Answered, Chose, Told, Recovered, Released, Acked, Broke, Cleared, LetGo, Closed}
use Rattle.tx_history.specs.History.{Start}
use Rattle.outcome_history.specs.Sessions.{session_event}
use Rattle.tx_engine.specs.World.{World, happened}
use Rattle.tx_plant.specs.declared.seat.Seat.{Seat}
use Rattle.tx_plant.specs.declared.turn.Outcome.{Outcome}
use Rattle.tx_plant.specs.declared.turn.PlantError.{PlantError}
use Rattle.tx_plant.specs.declared.turn.Turn.{Turn}
use Rattle.tx_plant.specs.declared.turn.Turn.TheVariants as turn
use Rattle.tx_plant.specs.Steps.{Moved}
use Rattle.tx_plant.specs.Core.{Core, seat_of}
use Rattle.tx_plant.specs.Turns.{event_for, refusal_for}
use Rattle.tx_plant.specs.Plant.{IsEngine, Logged, Seen, Whole}
use Rattle.outcome_plant.specs.Deeds.{deeds, kept_reply}
use Rattle.outcome_plant.specs.Mirrors.{Mirrors, StandsFor}
use Rattle.tx_seats.proofs.QuietTurns.{IsQuiet, quiet_for, Enters, entered}

-- what a turn is: moves of the outcome law's plant that add what happened, to one that represents the plant then
pub record Follows (p q : Whole) (m : List Moved) (a : AbstractPlant) : Type 0 where
  pub to : AbstractPlant
  pub run : IsRunOf p.core.world.flow (deeds p.core.world.flow m) a to
  pub stands : StandsFor to q
  pub flow : q.core.world.flow ≡ p.core.world.flow

-- the same for a plant whose seats keep the same replies
pub reseated : (w : World) (seat other : ℕ → Option Seat) (j : Seen) (a : AbstractPlant) → Mirrors w seat j a →
    ((s : ℕ) → kept_reply (seat s) ≡ kept_reply (other s)) → Mirrors w other j a
reseated w seat other j a m same = record {
  engine = m.engine;
  sessions = m.sessions;
  more = m.more;
  done = m.done;
  past = m.past;
  start = m.start;
  late = m.late;
  gone = m.gone;
  marked = m.marked;
  written = m.written;
  kept = λ s. m.kept s ∙ same s;
  tables = m.tables;
  fits = m.fits;
}

-- nothing happened
pub stayed : (p q : Whole) (m : List Moved) (a : AbstractPlant) → StandsFor a p → m ≡ [] → q.core.world ≡ p.core.world →
    ((s : ℕ) → kept_reply (seat_of p.core s) ≡ kept_reply (seat_of q.core s)) → q.journal ≡ p.journal → Follows p q m a
stayed p q m a h none world same journal = record {
  to = a;
  run = none_small p.core.world.flow (deeds p.core.world.flow m) a a (ap (deeds p.core.world.flow) none, refl);
  stands = subst (λ (j : Seen). Mirrors q.core.world (seat_of q.core) j a) (sym journal)
      (subst (λ (w : World). Mirrors w (seat_of q.core) p.journal a) (sym world) (reseated p.core.world (seat_of p.core) (seat_of q.core) p.journal a h same));
  flow = ap (λ (w : World). w.flow) world;
}

-- one entry more
pub grown : (w : World) (seat other : ℕ → Option Seat) (j : Seen) (a b : AbstractPlant) (e : Event) → Mirrors w seat j a → IsEngine (happened w e) →
    b.start ≡ a.start → b.late ≡ session_event w.flow w.start w.past e ∷ a.late → b.gone ≡ a.gone → b.mark ≡ a.mark
    → ((s : ℕ) → b.kept s ≡ kept_reply (other s)) → PlantFits w.flow b → Mirrors (happened w e) other j b
grown w seat other j a b e m engine start late gone mark kept fits = record {
  engine = engine;
  sessions = m.sessions;
  more = e ∷ m.more;
  done = m.done;
  past = ap (λ (es : List Event). e ∷ es) m.past;
  start = start ∙ m.start;
  late = late ∙ (ap (λ (es : List Event). session_event w.flow w.start es e ∷ a.late) m.past
      ∙ ap (λ (l : List SessionEvent). session_event w.flow w.start (m.more ++ m.done) e ∷ l) m.late);
  gone = gone ∙ m.gone;
  marked = mark ∙ m.marked;
  written = m.written;
  kept = kept;
  tables = m.tables;
  fits = fits;
}

-- events that are no session's own

abbrev pub with_late : AbstractPlant → SessionEvent → AbstractPlant
with_late a e = record a { late = e ∷ a.late }

quiet_run : (f : Flow) (v : Start) (past : List Event) (e : Event) (a : AbstractPlant) → IsQuiet e → IsRunOf f [] a (with_late a (session_event f v past e))
quiet_run f v past (Offered c) a h = one_small f plant.Quiet [] a _ refl refl
quiet_run f v past Released a h = one_small f plant.Quiet [] a _ refl refl
quiet_run f v past (Acked id place) a h = one_small f (plant.Acking id place) [] a _ refl refl
quiet_run f v past (Broke p) a h = one_small f plant.Quiet [] a _ refl refl
quiet_run f v past (Cleared p) a h = one_small f plant.Quiet [] a _ refl refl
quiet_run f v past (LetGo s) a h = one_small f plant.Quiet [] a _ refl refl
quiet_run f v past (Taken s) a h = absurd h
quiet_run f v past (Answered s b c) a h = absurd h
quiet_run f v past (Chose s t) a h = absurd h
quiet_run f v past (Told s t) a h = absurd h
quiet_run f v past (Recovered s c) a h = absurd h
quiet_run f v past (Closed id) a h = absurd h

logged_by : (p q : Whole) (a : AbstractPlant) (t : Turn) (m : List Moved) → StandsFor a p → IsEngine q.core.world → m ≡ [] →
    q.core ≡ record p.core { world = q.core.world } → q.journal ≡ p.journal → Enters (event_for p.core.world t) p.core.world q.core.world → Follows p q m a
logged_by p q a t m h engine none core journal (inl same) = stayed p q m a h none same (λ s. ap (λ (c : Core). kept_reply (seat_of c s)) (sym core)) journal
logged_by p q a t m h engine none core journal (inr (e, is, world)) =
    let w = p.core.world in
    let run : IsRunOf w.flow [] a (with_late a (session_event w.flow w.start w.past e)) = quiet_run w.flow w.start w.past e a (quiet_for w t e is) in
    let b : AbstractPlant = with_late a (session_event w.flow w.start w.past e) in
    let there : Mirrors (happened w e) (seat_of q.core) p.journal b =
    grown w (seat_of p.core) (seat_of q.core) p.journal a b e h (subst IsEngine world engine) refl refl refl refl
    (λ s. h.kept s ∙ ap (λ (c : Core). kept_reply (seat_of c s)) (sym core)) (ran w.flow run.turns a b h.fits run.run) in
    record {
      to = b;
      run = subst (λ (new : List PlantDeed). IsRunOf w.flow new a b) (ap (deeds w.flow) (sym none)) run;
      stands = subst (λ (j : Seen). Mirrors q.core.world (seat_of q.core) j b) (sym journal)
          (subst (λ (w : World). Mirrors w (seat_of q.core) p.journal b) (sym world) there);
      flow = ap (λ (w : World). w.flow) world;
    }

pub logged : (p q : Whole) (a : AbstractPlant) (t : Turn) (r : Result Outcome PlantError) (m : List Moved) → StandsFor a p → IsEngine q.core.world →
    Logged t m p r q → Follows p q m a
logged p q a t r m h engine k = logged_by p q a t m h engine k.0 k.1 k.2.3 (entered (event_for p.core.world t) (refusal_for p.core.world t) p.core.world
    k.2.0 q.core.world k.2.2)
