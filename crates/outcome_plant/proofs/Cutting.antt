-- A cut: the history begins anew from what is written.
-- for: laws::turns_are_moves
use Rattle.std.proofs.Common.{◌≡◌, ℕ, ◌+◌, ◌<◌, ◌≤◌, ◌==◌, Bool, true, false, List, [], ◌∷◌, ◌++◌, length, Option, Some, None, Result, Ok, Err, refl}
use Rattle.std.proofs.Common.{sym, ◌∙◌, ap, subst, arith, length-append}
use Rattle.std.specs.Prelude.{if◌then◌else◌, nat_lt}
use Rattle.std.specs.declared.alloc.AllocError.{AllocError}
use Rattle.std.proofs.lemmas.Bool.Decides.{nat_tests}
use Rattle.outcome_calls.specs.Core as core
use Rattle.outcome_calls.specs.Core.{PlantDeed}
use Rattle.outcome_calls.specs.Plant as plant
use Rattle.outcome_calls.specs.Plant.{AbstractPlant, cut_plant, past, unfinished, whole}
use Rattle.outcome_calls.proofs.PlantMoves.{ran}
use Rattle.outcome_calls.proofs.Turns.{IsRunOf, one_small}
use Rattle.tx_history.specs.declared.event.Event.{Event}
use Rattle.tx_history.specs.declared.event.Event.TheVariants.{Offered, Taken, Answered, Chose, Told, Recovered, Released, Acked, Broke, Cleared, LetGo, Closed}
use Rattle.tx_history.specs.History.{Start, or_taken, recovering, serves, taken}
use Rattle.tx_history.specs.Journal.{journal}
use Rattle.tx_history.specs.Views.{AreSessions}
use Rattle.tx_history.proofs.Changes.{journal_first}
use Rattle.tx_history.proofs.Sessions.{holds_recovered}
use Rattle.outcome_history.specs.Looked.{id_view}
use Rattle.tx_engine.specs.World.{World}
use Rattle.tx_engine.specs.Calls.{held_id}
use Rattle.tx_engine.specs.Cuts.{cut_refusal, cut_world, is_in_use}
use Rattle.tx_plant.specs.declared.seat.Seat.{Seat}
use Rattle.tx_plant.specs.declared.turn.Outcome.{Outcome}
use Rattle.tx_plant.specs.declared.turn.Outcome.TheVariants as outcome
use Rattle.tx_plant.specs.Steps.{Moved}
use Rattle.tx_plant.specs.Core.{Core, seat_of}
use Rattle.tx_plant.specs.Turns.{Cuts}
use Rattle.tx_plant.specs.Plant.{IsEngine, Seen, Whole}
use Rattle.outcome_plant.specs.Deeds.{deeds, kept_reply}
use Rattle.outcome_plant.specs.Mirrors.{Mirrors, StandsFor}
use Rattle.outcome_plant.proofs.Sameness.{past_same, recovering_there, serves_same, view_there}
use Rattle.outcome_plant.proofs.Growth.{Follows, reseated, stayed}
use Rattle.outcome_plant.proofs.Takes.{none_kept, none_unfinished}
use Rattle.outcome_plant.proofs.Writing.{events_length}
use Rattle.tx_seats.proofs.FreeSessions.{allowed_by, free_session}

-- no session is in use

-- a session that took is one of the engine's

taken_if : (n t s id : ℕ) (o : Option ℕ) (old : Option ℕ) → t < n → (old ≡ Some id → s < n) → (b : Bool) → (t == s) ≡ b → (if b then o else old) ≡ Some id →
    s < n
taken_if n t s id o old lt ih true e h = let same : t ≡ s = grind (arith, nat_tests) in omega (arith, same, lt)
taken_if n t s id o old lt ih false e h = ih h

took_within : (v : Start) (n : ℕ) (past : List Event) (s id : ℕ) → AreSessions n past → taken v past s ≡ Some id → s < n
took_within v n [] s id h e = absurd (cc)
took_within v n (Taken t ∷ past) s id h e = taken_if n t s id _ (taken v past s) h.0 (took_within v n past s id h.1) (t == s) refl e
took_within v n (Offered x ∷ past) s id h e = took_within v n past s id h e
took_within v n (Answered t b x ∷ past) s id h e = took_within v n past s id h e
took_within v n (Chose t x ∷ past) s id h e = took_within v n past s id h e
took_within v n (Told t x ∷ past) s id h e = took_within v n past s id h e
took_within v n (Recovered t x ∷ past) s id h e = took_within v n past s id h e
took_within v n (Released ∷ past) s id h e = took_within v n past s id h e
took_within v n (Acked k m ∷ past) s id h e = took_within v n past s id h e
took_within v n (Broke p ∷ past) s id h e = took_within v n past s id h e
took_within v n (Cleared p ∷ past) s id h e = took_within v n past s id h e
took_within v n (LetGo t ∷ past) s id h e = took_within v n past s id h e
took_within v n (Closed k ∷ past) s id h e = took_within v n past s id h e

none_recovering : (w : World) → IsEngine w → 1 ≤ w.sessions → is_in_use w ≡ false → (o : Option ℕ) → recovering w.flow w.start w.past ≡ o → o ≡ None
none_recovering w engine some none None e = refl
none_recovering w engine some none (Some id) e =
    let held : held_id w 0 ≡ Some id = holds_recovered w.flow w.start w.past id engine.start.view.ordered e in
    let free : held_id w 0 ≡ None = free_session w 0 none some in
    absurd (cc)

served_within : (w : World) (s id : ℕ) → IsEngine w → recovering w.flow w.start w.past ≡ None → (b : Bool) (r : Option ℕ) → r ≡ None →
    (if b then or_taken r (taken w.start w.past s) else taken w.start w.past s) ≡ Some id → s < w.sessions
served_within w s id engine none true None e h = took_within w.start w.sessions w.past s id engine.lawful.sessions h
served_within w s id engine none true (Some k) e h = absurd (cc)
served_within w s id engine none false r e h = took_within w.start w.sessions w.past s id engine.lawful.sessions h

idle_all : (w : World) (seat : ℕ → Option Seat) (j : Seen) (a : AbstractPlant) (s id : ℕ) → Mirrors w seat j a → is_in_use w ≡ false →
    recovering w.flow w.start w.past ≡ None → plant.serves w.flow a.start (past a) s ≡ Some id →
    unfinished w.flow (core.at w.flow a.start (whole w.flow a) id) ≡ false
idle_all w seat j a s id m free none h =
    let served : serves w.flow w.start w.past s ≡ Some id = sym (serves_same w seat j a s m) ∙ h in
    let within : s < w.sessions = served_within w s id m.engine none (s == 0) (recovering w.flow w.start w.past) none served in
    none_unfinished w seat j a s id m (free_session w s free within) h

-- all is written

nothing_more : (more : List Event) → length more ≡ 0 → more ≡ []
nothing_more [] h = refl
nothing_more (e ∷ more) h = absurd (omega arith)

all_done : (w : World) (seat : ℕ → Option Seat) (j : Seen) (a : AbstractPlant) (m : Mirrors w seat j a) → nat_lt w.mark (length w.past) ≡ false → m.more ≡ []
all_done w seat j a m late =
    let high : length w.past ≤ w.mark = grind (arith, nat_tests) in
    let long : length w.past ≡ length (m.more ++ m.done) = ap length m.past in
    let few = m.written in
    nothing_more m.more (omega (arith, high, long, few, length-append m.more m.done))

-- the cut

cut_as : (w : World) (seat : ℕ → Option Seat) (j : Seen) (a : AbstractPlant) → Mirrors w seat j a → IsEngine (cut_world w) → cut_refusal w ≡ None →
    (b : AbstractPlant) × IsRunOf w.flow [] a b × Mirrors (cut_world w) seat j b
cut_as w seat j a m engine allowed =
    let k = allowed_by (is_in_use w) (nat_lt w.mark (length w.past)) allowed in
    let none : recovering w.flow w.start w.past ≡ None = none_recovering w m.engine m.sessions k.0 (recovering w.flow w.start w.past) refl in
    let nothing : m.more ≡ [] = all_done w seat j a m k.1 in
    let past_is : w.past ≡ m.done = m.past ∙ ap (λ (es : List Event). es ++ m.done) nothing in
    let mark : a.mark ≡ length (past a) = m.marked ∙ (m.written
    ∙ (ap length (sym past_is) ∙ (sym (events_length w.flow w.start w.past) ∙ ap length (sym (past_same w seat j a m))))) in
    let idle : (s id : ℕ) → plant.serves w.flow a.start (past a) s ≡ Some id → unfinished w.flow (core.at w.flow a.start (whole w.flow a) id) ≡ false =
    λ s id e. idle_all w seat j a s id m k.0 none e in
    let b : AbstractPlant = cut_plant w.flow a in
    let run : IsRunOf w.flow [] a b = one_small w.flow plant.Cut [] a b (mark, recovering_there w seat j a m ∙ none, idle, refl) refl in (
      b,
      run,
      record {
        engine = engine;
        sessions = m.sessions;
        more = [];
        done = [];
        past = refl;
        start = view_there w seat j a m ∙ ap (λ (es : List Event). id_view w.flow (journal w.flow w.start es)) (sym past_is);
        late = refl;
        gone = refl;
        marked = refl;
        written = refl;
        kept = λ s. sym (none_kept w.flow a s m.fits (λ id e. idle s id e)) ∙ m.kept s;
        tables = λ c u. (let t = m.tables c u in
            record {
              stands = record {
                ordered = t.stands.ordered;
                reads =
                    t.stands.reads ∙ (ap (journal w.flow w.start) (sym past_is) ∙ sym (journal_first w.flow (cut_world w).start engine.start.view.ordered));
              };
              sound = t.sound;
            });
        fits = ran w.flow run.turns a b m.fits run.run;
      },
    )

cut_now : (p q : Whole) (a : AbstractPlant) (m : List Moved) → StandsFor a p → IsEngine q.core.world → m ≡ [] →
    q.core ≡ record p.core { world = q.core.world } → q.journal ≡ p.journal → cut_refusal p.core.world ≡ None → q.core.world ≡ cut_world p.core.world →
    Follows p q m a
cut_now p q a m h engine none core journal allowed world =
    let w = p.core.world in
    let z = cut_as w (seat_of p.core) p.journal a h (subst IsEngine world engine) allowed in
    let there : Mirrors (cut_world w) (seat_of q.core) p.journal z.0 = reseated (cut_world w) (seat_of p.core) (seat_of q.core) p.journal z.0 z.2
    (λ t. ap (λ (c : Core). kept_reply (seat_of c t)) (sym core)) in
    record {
      to = z.0;
      run = subst (λ (new : List PlantDeed). IsRunOf w.flow new a z.0) (ap (deeds w.flow) (sym none)) z.1;
      stands = subst (λ (j : Seen). Mirrors q.core.world (seat_of q.core) j z.0) (sym journal)
          (subst (λ (w : World). Mirrors w (seat_of q.core) p.journal z.0) (sym world) there);
      flow = ap (λ (w : World). w.flow) world;
    }

pub cuts : (p q : Whole) (a : AbstractPlant) (m : List Moved) (r : Result Outcome AllocError) → StandsFor a p → IsEngine q.core.world → m ≡ [] →
    q.core ≡ record p.core { world = q.core.world } → q.journal ≡ p.journal → Cuts p.core.world r q.core.world → Follows p q m a
cuts p q a m (Ok (outcome.Cut n)) h engine none core journal k = cut_now p q a m h engine none core journal k.0 k.2
cuts p q a m (Ok (outcome.Refused e)) h engine none core journal k = stayed p q m a h none k.1 (λ t. ap (λ (c : Core). kept_reply (seat_of c t)) (sym core))
    journal
cuts p q a m (Err x) h engine none core journal k = stayed p q m a h none k (λ t. ap (λ (c : Core). kept_reply (seat_of c t)) (sym core)) journal
cuts p q a m (Ok (outcome.Accepted n)) h engine none core journal k = absurd k
cuts p q a m (Ok outcome.Idle) h engine none core journal k = absurd k
cuts p q a m (Ok outcome.Unwritten) h engine none core journal k = absurd k
cuts p q a m (Ok (outcome.Held c)) h engine none core journal k = absurd k
cuts p q a m (Ok (outcome.Written n)) h engine none core journal k = absurd k
cuts p q a m (Ok (outcome.Restarted n)) h engine none core journal k = absurd k
