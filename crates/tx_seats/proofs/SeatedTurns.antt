-- Each turn leaves every session that holds a transaction its seat; and what a recovery is refused for.
-- for: laws::seats_are_held, laws::recoveries_refuse_full_histories
use Rattle.std.proofs.Common.{◌≡◌, ◌≤◌, ℕ, Bool, true, false, inl, inr, List, [], ◌∷◌, ◌++◌, Option, Some, Result, Ok, Err, sym, subst, arith}
use Rattle.std.specs.Prelude.{nat_le}
use Rattle.std.specs.List.{AllByRecursion}
use Rattle.std.proofs.lemmas.Bool.Decides.{nat_tests}
use Rattle.sw_base.specs.Refusals.{first_of, refused_if}
use Rattle.sw_participant.specs.Chains.{Rule}
use Rattle.journal_store.specs.declared.error.JournalError.{JournalError}
use Rattle.tx_engine.specs.declared.error.EngineError.{EngineError}
use Rattle.tx_engine.specs.declared.error.EngineError.TheVariants.{HistoryFull, NoSession}
use Rattle.tx_engine.specs.World.{World}
use Rattle.tx_engine.specs.Calls.{is_full}
use Rattle.tx_plant.specs.declared.turn.DriveFault.{DriveFault}
use Rattle.tx_plant.specs.declared.turn.Outcome.{Outcome}
use Rattle.tx_plant.specs.declared.turn.Outcome.TheVariants as outcome
use Rattle.tx_plant.specs.declared.turn.PlantError.{PlantError}
use Rattle.tx_plant.specs.declared.turn.PlantError.TheVariants as error
use Rattle.tx_plant.specs.declared.turn.Turn.{Turn}
use Rattle.tx_plant.specs.declared.turn.Turn.TheVariants as turn
use Rattle.tx_plant.specs.Recovery.{IsRecovery, Recovers}
use Rattle.tx_plant.specs.Steps.{Moved}
use Rattle.tx_plant.specs.Plant.{Driven, Faulted, GoesOn, Seen, Turned, Whole, Writes, journal_fault}
use Rattle.tx_seats.specs.Drives.{AllDriven, Broken, Done, Drive, DrivenBy, TookEnded}
use Rattle.tx_seats.specs.Seated.{Seated, step_refusal}
use Rattle.tx_seats.proofs.SeatedCuts.{cuts_seated}
use Rattle.tx_seats.proofs.SeatedEntries.{logged_seated, writes_seated}
use Rattle.tx_seats.proofs.SeatedSteps.{stepped_seated}
use Rattle.tx_seats.proofs.SeatedStops.{stops_seated}
use Rattle.tx_seats.proofs.SeatedTakes.{takes_seated}
use Rattle.tx_seats.proofs.StepRefusals.{refused}

pub turned_seated : (t : Turn) (r : Result Outcome PlantError) (m : List Moved) (p q : Whole) → Seated p.core → GoesOn t p q → Turned t r m p q → Seated q.core
turned_seated (turn.Take s) r m p q h g k = takes_seated p.core q.core s m k.0 h g.engine k.2
turned_seated (turn.Step s) r m p q h g k = stepped_seated p.core q.core s m k.0 h g.engine k.2
turned_seated (turn.Write most) r m p q h g k = subst Seated (sym k.1) (writes_seated p.core q.core.world p.journal q.journal most k.2 h g.engine k.4)
turned_seated turn.Stop r m p q h g k = stops_seated p q m r h g.engine k
turned_seated turn.Cut r m p q h g k = subst Seated (sym k.1) (cuts_seated p.core q.core.world k.2.0 h g.engine k.2.2)
turned_seated (turn.Offer x) r m p q h g k = logged_seated p q (turn.Offer x) r m h g.engine k
turned_seated turn.Release r m p q h g k = logged_seated p q turn.Release r m h g.engine k
turned_seated (turn.Ack id place) r m p q h g k = logged_seated p q (turn.Ack id place) r m h g.engine k
turned_seated (turn.Break name) r m p q h g k = logged_seated p q (turn.Break name) r m h g.engine k
turned_seated (turn.Clear name) r m p q h g k = logged_seated p q (turn.Clear name) r m h g.engine k
turned_seated (turn.LetGo s) r m p q h g k = logged_seated p q (turn.LetGo s) r m h g.engine k

-- turns one after the other, and calls of `drive`

driven_seated : (ts : List Turn) (os : List Outcome) (m : List Moved) (p q : Whole) → Seated p.core → Driven ts os m p q → Seated q.core
driven_seated [] [] m p q h k = subst (λ (z : Whole). Seated z.core) (sym k.1) h
driven_seated (t ∷ ts) (o ∷ os) m p q h k = driven_seated ts os k.2 k.0 q (turned_seated t (Ok o) k.1 p k.0 h k.6 k.3) k.4
driven_seated [] (o ∷ os) m p q h k = absurd k
driven_seated (t ∷ ts) [] m p q h k = absurd k

faulted_seated : (ts : List Turn) (f : DriveFault) (m : List Moved) (p q : Whole) → Seated p.core → Faulted ts f m p q → Seated q.core
faulted_seated ts f m p q h (inl k) = turned_seated k.turn (Err f.cause) k.last k.between q (driven_seated _ k.outcomes k.first p k.between h k.driven)
    k.goes k.failed
faulted_seated ts f m p q h (inr k) = subst (λ (z : Whole). Seated z.core) (sym k.2) h

once_seated : (d : Drive) (m : List Moved) (p q : Whole) → Seated p.core → DrivenBy d m p q → Seated q.core
once_seated (Done ts os) m p q h k = driven_seated ts os m p q h k
once_seated (Broken ts f) m p q h k = faulted_seated ts f m p q h k
once_seated TookEnded m p q h k =
    subst (λ (z : Whole). Seated z.core) (sym k.1)
    (record { engine = h.engine; sessions = h.sessions; places = h.places; seats = h.seats; replies = h.replies; waits = h.waits })

pub all_seated : (ds : List Drive) (m : List Moved) (p q : Whole) → Seated p.core → AllDriven ds m p q → Seated q.core
all_seated [] m p q h k = subst (λ (z : Whole). Seated z.core) (sym k.1) h
all_seated (d ∷ ds) m p q h k = all_seated ds k.2 k.0 q (once_seated d k.1 p k.0 h k.3) k.4

-- the turn of a recovery that the engine refuses

full_by : (e : EngineError) (none full : Bool) → none ≡ false → first_of (refused_if none NoSession ∷ refused_if full HistoryFull ∷ []) ≡ Some e →
    e ≡ HistoryFull
full_by e true full u h = absurd (cc)
full_by e false false u h = absurd (cc)
full_by e false true u h = same e h
  where
    same : (e : EngineError) → Some HistoryFull ≡ Some e → e ≡ HistoryFull
    same e h = cc

full : (w : World) (e : EngineError) → 1 ≤ w.sessions → step_refusal w 0 ≡ Some e → e ≡ HistoryFull
full w e some h = let there : nat_le w.sessions 0 ≡ false = grind (arith, nat_tests) in full_by e (nat_le w.sessions 0) (is_full w) there h

same_ok : {A E : Type 0} (a b : A) → ◌≡◌ {A = Result A E} (Ok a) (Ok b) → a ≡ b
same_ok a b e = cc

never_written : (most : Option ℕ) (e : EngineError) (w to : World) (j k : Seen) (x : Result Outcome JournalError) →
    Ok (outcome.Refused e) ≡ journal_fault x → Writes most w j x to k → ⊥
never_written most e w to j k (Ok o) is h = subst (λ (o : Outcome). Writes most w j (Ok o) to k) (sym (same_ok {E = PlantError} (outcome.Refused e) o is)) h
never_written most e w to j k (Err x) is h = absurd (cc)

last_full : (t : Turn) (e : EngineError) (m : List Moved) (p q : Whole) → Seated p.core → IsRecovery t → Turned t (Ok (outcome.Refused e)) m p q →
    e ≡ HistoryFull
last_full (turn.Step s) e m p q h first k = full p.core.world e h.sessions
    (subst (λ (s : ℕ). step_refusal p.core.world s ≡ Some e) first (refused s e m p q h k))
last_full (turn.Write most) e m p q h all k = absurd (never_written most e p.core.world q.core.world p.journal q.journal k.2 k.3 k.4)
last_full (turn.Take s) e m p q h none k = absurd none
last_full turn.Stop e m p q h none k = absurd none
last_full turn.Cut e m p q h none k = absurd none
last_full (turn.Offer x) e m p q h none k = absurd none
last_full turn.Release e m p q h none k = absurd none
last_full (turn.Ack id place) e m p q h none k = absurd none
last_full (turn.Break name) e m p q h none k = absurd none
last_full (turn.Clear name) e m p q h none k = absurd none
last_full (turn.LetGo s) e m p q h none k = absurd none

ends_full : (ts : List Turn) (os : List Outcome) (e : EngineError) (m : List Moved) (p q : Whole) → Seated p.core → AllByRecursion IsRecovery ts →
    Driven ts (os ++ outcome.Refused e ∷ []) m p q → e ≡ HistoryFull
ends_full [] [] e m p q h all k = absurd k
ends_full [] (o ∷ os) e m p q h all k = absurd k
ends_full (t ∷ ts) [] e m p q h all k = last_full t e k.1 p k.0 h all.0 k.3
ends_full (t ∷ ts) (o ∷ os) e m p q h all k = ends_full ts os e k.2 k.0 q (turned_seated t (Ok o) k.1 p k.0 h k.6 k.3) all.1 k.4

pub recovers_full : (rule : ℕ → Rule) (os ps : List (List ℕ)) (cs ds : List ℕ) (e : EngineError) (p q : Whole) → Seated p.core →
    Recovers rule os cs p (Err (error.Engine e)) ps ds q → e ≡ HistoryFull
recovers_full rule os ps cs ds e p q h (turns, all, (outcomes, (m, driven, led, counts))) = ends_full turns outcomes e m p q h all driven
