-- A stop, and the opening of a new engine on what is written.
-- for: laws::turns_are_moves
use Rattle.std.proofs.Common.{◌≡◌, ℕ, ◌≤◌, false, inl, inr, List, [], ◌∷◌, ◌++◌, length, get_or, replicate, Option, None, Result, Ok, Err, refl, sym, ◌∙◌, ap}
use Rattle.std.proofs.Common.{subst, arith, append-nil}
use Rattle.std.proofs.lemmas.Bool.{cases_lt}
use Rattle.std.proofs.lemmas.List.{get_or-replicate, length-replicate}
use Rattle.std.proofs.Math.ListN.{get_or-eq_default}
use Rattle.sw_participant.specs.Chains.{Stopped}
use Rattle.flow_model.specs.declared.flow.Flow.{Flow}
use Rattle.outcome_calls.specs.Core.{Halted, IdView, Shuts}
use Rattle.outcome_calls.specs.Plant as plant
use Rattle.outcome_calls.specs.Plant.{AbstractPlant, SessionEvent, made_on, shut_ids, view}
use Rattle.outcome_calls.proofs.PlantMoves.{ran}
use Rattle.outcome_calls.proofs.Turns.{IsRunOf, none_small, one_small}
use Rattle.tx_history.specs.declared.event.Event.{Event}
use Rattle.tx_history.specs.declared.journal.JournalView.{JournalView}
use Rattle.tx_history.specs.History.{Start}
use Rattle.tx_history.specs.Journal.{journal}
use Rattle.tx_history.specs.Lives.{opened}
use Rattle.tx_history.proofs.Changes.{journal_first}
use Rattle.outcome_history.specs.Looked.{closings, id_view}
use Rattle.outcome_history.specs.Sessions.{session_event, session_events}
use Rattle.outcome_history.proofs.LastEntries.{opened_shut}
use Rattle.outcome_history.proofs.OpeningClosings.{closings_shut}
use Rattle.journal_rows.specs.Tables.{Tables}
use Rattle.journal_store.specs.Histories.{Holds}
use Rattle.tx_engine.specs.World.{World}
use Rattle.tx_engine.specs.Opening.{first_start, opened_world}
use Rattle.tx_plant.specs.declared.seat.Seat.{Seat}
use Rattle.tx_plant.specs.declared.turn.Outcome.{Outcome}
use Rattle.tx_plant.specs.declared.turn.Outcome.TheVariants as outcome
use Rattle.tx_plant.specs.declared.turn.PlantError.{PlantError}
use Rattle.tx_plant.specs.Steps.{Moved}
use Rattle.tx_plant.specs.Core.{Core, Same, seat_of}
use Rattle.tx_plant.specs.Plant.{IsClean, IsEngine, Opened, Seen, Stops, Whole}
use Rattle.outcome_plant.specs.Deeds.{deeds, kept_reply}
use Rattle.outcome_plant.specs.Mirrors.{Mirrors, StandsFor, later_events}
use Rattle.outcome_plant.proofs.Sameness.{view_there}
use Rattle.outcome_plant.proofs.Growth.{Follows}
use Rattle.outcome_plant.proofs.SeatReplies.{reseats}
use Rattle.tx_seats.proofs.SeatSets.{reseats_world}

-- a new engine

pub later_first : (f : Flow) (v : Start) (past : List Event) → later_events f v [] past ≡ session_events f v past
later_first f v [] = refl
later_first f v (e ∷ past) =
    let same : past ++ [] ≡ past = rw append-nil refl in
    ap (λ (es : List Event). session_event f v es e ∷ later_events f v [] past) same
    ∙ ap (λ (l : List SessionEvent). session_event f v past e ∷ l) (later_first f v past)

empty_seats : (n s : ℕ) → kept_reply (get_or (replicate n None) s None) ≡ None
empty_seats n s = elim (cases_lt s n) [
  | inl low ↦ ap kept_reply (get_or-replicate n s None None low)
  | inr high ↦ (let none : Option Seat = None in let far : length (replicate n none) ≤ s = omega (arith, high, length-replicate n none) in
      ap kept_reply (get_or-eq_default (replicate n none) None far))
]

pub fresh_kept : (f : Flow) (n : ℕ) (view : JournalView) (j : Seen) (q : Core) (k : Seen) (s : ℕ) → Opened f n view j q k → kept_reply (seat_of q s) ≡ None
fresh_kept f n view j q k s o =
    reseats o.first q s o.reseats ∙ (ap (λ (seats : List (Option Seat)). kept_reply (get_or seats s None)) o.is_fresh.seats ∙ empty_seats n s)

pub fresh_world : (f : Flow) (n : ℕ) (view : JournalView) (j : Seen) (q : Core) (k : Seen) → Opened f n view j q k → q.world ≡ opened_world f view n
fresh_world f n view j q k o = reseats_world o.first q o.reseats ∙ o.is_fresh.world

-- the stop

stopped_as : (w : World) (seat other : ℕ → Option Seat) (j k : Seen) (a : AbstractPlant) (v : JournalView) (h : Mirrors w seat j a) →
    IsEngine (opened_world w.flow v w.sessions) → journal w.flow w.start h.done ≡ v → Shuts (id_view w.flow v) (shut_ids (closings w.flow (first_start v)))
    → ((s : ℕ) → kept_reply (other s) ≡ None) → (IsClean k → k.failed ≡ false → Holds k.tables w.flow (first_start v) [])
    → (b : AbstractPlant) × IsRunOf w.flow (Halted (id_view w.flow v) ∷ []) a b × Mirrors (opened_world w.flow v w.sessions) other k b
stopped_as w seat other j k a v h engine same shuts none tables =
    let start : view w.flow a ≡ id_view w.flow v = view_there w seat j a h ∙ ap (id_view w.flow) same in
    let cs : List ℕ = closings w.flow (first_start v) in
    let b : AbstractPlant = made_on (view w.flow a) cs a.calls in
    let shut_now : Shuts (view w.flow a) (shut_ids cs) = subst (λ (j : IdView). Shuts j (shut_ids cs)) (sym start) shuts in
    let run : IsRunOf w.flow (Halted (view w.flow a) ∷ []) a b = one_small w.flow (plant.Stop cs) (Halted (view w.flow a) ∷ []) a b (shut_now, refl) refl in (
      b,
      subst (λ (j : IdView). IsRunOf w.flow (Halted j ∷ []) a b) start run,
      record {
        engine = engine;
        sessions = h.sessions;
        more = opened w.flow (first_start v);
        done = [];
        past = sym (rw append-nil refl);
        start = start;
        late = sym (opened_shut w.flow (first_start v)) ∙ sym (later_first w.flow (first_start v) (opened w.flow (first_start v)));
        gone = refl;
        marked = refl;
        written = refl;
        kept = λ s. sym (none s);
        tables = tables;
        fits = ran w.flow run.turns a b h.fits run.run;
      },
    )

stopped : (p q : Whole) (a : AbstractPlant) (m : List Moved) (v : JournalView) → StandsFor a p → IsEngine q.core.world → IsClean q.journal →
    (IsClean q.journal → IsClean p.journal) → (q.journal.failed ≡ false → p.journal.failed ≡ false)
    → m ≡ Stopped v ∷ [] → Opened p.core.world.flow p.core.world.sessions v p.journal q.core q.journal → Follows p q m a
stopped p q a m v h engine clean was_clean unfailed is o =
    let w = p.core.world in
    let world : q.core.world ≡ opened_world w.flow v w.sessions = fresh_world w.flow w.sessions v p.journal q.core q.journal o in
    let t = h.tables (was_clean clean) (unfailed (o.reads.fresh clean)) in
    let same : journal w.flow w.start h.done ≡ v = sym t.stands.reads ∙ (o.reads.view_is clean).reads in
    let z = stopped_as w (seat_of p.core) (seat_of q.core) p.journal q.journal a v h (subst IsEngine world engine) same
    (closings_shut w.flow (first_start v) o.is_fresh.ok) (λ s. fresh_kept w.flow w.sessions v p.journal q.core q.journal s o)
    (λ c u. subst (λ (t : Tables). Holds t w.flow (first_start v) []) (sym (o.reads.tables c))
    (record {
      stands = record {
        ordered = t.stands.ordered;
        reads =
            t.stands.reads ∙ (same ∙ sym (journal_first w.flow (first_start v) o.is_fresh.ok.ordered));
      };
      sound = t.sound;
    })) in
    record {
      to = z.0;
      run = subst (λ (m : List Moved). IsRunOf w.flow (deeds w.flow m) a z.0) (sym is) z.1;
      stands = subst (λ (w : World). Mirrors w (seat_of q.core) q.journal z.0) (sym world) z.2;
      flow = ap (λ (w : World). w.flow) world;
    }

-- no engine was opened

reread : (w : World) (seat : ℕ → Option Seat) (j k : Seen) (a : AbstractPlant) → Mirrors w seat j a → (IsClean k → IsClean j) →
    (k.failed ≡ false → j.failed ≡ false) → (IsClean k → k.failed ≡ false → k.tables ≡ j.tables) → Mirrors w seat k a
reread w seat j k a h clean unfailed tables = record {
  engine = h.engine;
  sessions = h.sessions;
  more = h.more;
  done = h.done;
  past = h.past;
  start = h.start;
  late = h.late;
  gone = h.gone;
  marked = h.marked;
  written = h.written;
  kept = h.kept;
  tables = λ c u. subst (λ (t : Tables). Holds t w.flow w.start h.done) (sym (tables c u)) (h.tables (clean c) (unfailed u));
  fits = h.fits;
}

not_stopped : (p q : Whole) (a : AbstractPlant) (m : List Moved) → StandsFor a p → (IsClean q.journal → IsClean p.journal) →
    (q.journal.failed ≡ false → p.journal.failed ≡ false) → (IsClean q.journal → q.journal.failed ≡ false → q.journal.tables ≡ p.journal.tables)
    → Same m p.core q.core → Follows p q m a
not_stopped p q a m h clean unfailed tables same = record {
  to = a;
  run = none_small p.core.world.flow (deeds p.core.world.flow m) a a (ap (deeds p.core.world.flow) same.0, refl);
  stands = subst (λ (c : Core). Mirrors c.world (seat_of c) q.journal a) (sym same.1)
      (reread p.core.world (seat_of p.core) p.journal q.journal a h clean unfailed tables);
  flow = ap (λ (c : Core). c.world.flow) same.1;
}

pub stops : (p q : Whole) (a : AbstractPlant) (m : List Moved) (r : Result Outcome PlantError) → StandsFor a p → IsEngine q.core.world → IsClean q.journal →
    (IsClean q.journal → IsClean p.journal) → (q.journal.failed ≡ false → p.journal.failed ≡ false)
    → (IsClean q.journal → q.journal.failed ≡ false → q.journal.tables ≡ p.journal.tables) → Stops m p r q → Follows p q m a
stops p q a m (Ok (outcome.Restarted u)) h engine clean was_clean unfailed tables k = stopped p q a m k.0 h engine clean was_clean unfailed k.1 k.2
stops p q a m (Ok (outcome.Refused e)) h engine clean was_clean unfailed tables k = not_stopped p q a m h was_clean unfailed tables k.0
stops p q a m (Err e) h engine clean was_clean unfailed tables k = not_stopped p q a m h was_clean unfailed tables k.0
stops p q a m (Ok (outcome.Accepted n)) h engine clean was_clean unfailed tables k = absurd k
stops p q a m (Ok outcome.Idle) h engine clean was_clean unfailed tables k = absurd k
stops p q a m (Ok outcome.Unwritten) h engine clean was_clean unfailed tables k = absurd k
stops p q a m (Ok (outcome.Held c)) h engine clean was_clean unfailed tables k = absurd k
stops p q a m (Ok (outcome.Written n)) h engine clean was_clean unfailed tables k = absurd k
stops p q a m (Ok (outcome.Cut n)) h engine clean was_clean unfailed tables k = absurd k
