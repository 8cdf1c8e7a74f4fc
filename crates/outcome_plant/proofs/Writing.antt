-- A write: the oldest entries go into the tables, and the mark moves over them; or the journal fails.
-- for: laws::turns_are_moves
use Rattle.std.proofs.Common.{◌≡◌, ℕ, ◌+◌, ◌-◌, ◌≤◌, false, true, List, [], ◌∷◌, ◌++◌, length, take, drop, Option, Some, None, Result, Ok, Err, refl, sym, ◌∙◌}
use Rattle.std.proofs.Common.{ap, subst, arith, append_assoc, length-append}
use Rattle.std.proofs.lemmas.List.{take-append-drop, length-drop}
use Rattle.std.proofs.Math.Seq.{drop-append_seam, take-append_seam}
use Rattle.sqlite_trees.specs.View.{doubt}
use Rattle.flow_model.specs.declared.flow.Flow.{Flow}
use Rattle.outcome_calls.specs.Core.{PlantDeed}
use Rattle.outcome_calls.specs.Plant.{AbstractPlant, SessionEvent}
use Rattle.outcome_calls.proofs.PlantMoves.{ran}
use Rattle.outcome_calls.proofs.Turns.{IsRunOf, none_small, wrote_small}
use Rattle.tx_history.specs.declared.event.Event.{Event}
use Rattle.tx_history.specs.declared.event.Entry.{Entry}
use Rattle.tx_history.specs.History.{Start}
use Rattle.tx_history.specs.Journal.{entries}
use Rattle.tx_history.specs.Views.{IsHistory}
use Rattle.outcome_history.specs.Sessions.{session_event, session_events}
use Rattle.journal_rows.specs.Tables.{Tables, all_made}
use Rattle.journal_rows.specs.Law.{changes_of}
use Rattle.journal_store.specs.declared.error.JournalError.{JournalError}
use Rattle.journal_store.specs.Histories.{Holds, entries_after, newest_entry}
use Rattle.journal_store.proofs.HistoryChanges.{history_kept}
use Rattle.tx_engine.specs.World.{World}
use Rattle.tx_plant.specs.declared.seat.Seat.{Seat}
use Rattle.tx_plant.specs.declared.turn.Outcome.{Outcome}
use Rattle.tx_plant.specs.declared.turn.Outcome.TheVariants as outcome
use Rattle.tx_plant.specs.Steps.{Moved}
use Rattle.tx_plant.specs.Core.{Core, seat_of}
use Rattle.tx_plant.specs.Plant.{IsClean, IsEngine, Seen, Whole, Writes, batch, count_of, late}
use Rattle.outcome_plant.specs.Deeds.{deeds, kept_reply}
use Rattle.outcome_plant.specs.Mirrors.{Mirrors, StandsFor, later_events}
use Rattle.outcome_plant.proofs.Sameness.{begins_lawful, later_whole}
use Rattle.outcome_plant.proofs.Growth.{Follows, reseated}
use Rattle.tx_history.proofs.EntryCounts.{entries_length}

-- entries of a history and of those after it

entries_more : (f : Flow) (v : Start) (done more : List Event) → entries f v (more ++ done) ≡ entries f v done ++ entries_after f v done more
entries_more f v done [] = sym (append_none (entries f v done))
  where
    append_none : (xs : List Entry) → xs ++ [] ≡ xs
    append_none [] = refl
    append_none (x ∷ xs) = ap (λ (l : List Entry). x ∷ l) (append_none xs)
entries_more f v done (e ∷ more) =
    ap (λ (l : List Entry). l ++ newest_entry f v (more ++ done) e ∷ []) (entries_more f v done more)
    ∙ append_assoc (entries f v done) (entries_after f v done more) (newest_entry f v (more ++ done) e ∷ [])

pub after_length : (f : Flow) (v : Start) (done more : List Event) → length (entries_after f v done more) ≡ length more
after_length f v done [] = refl
after_length f v done (e ∷ more) = let ih = after_length f v done more in
    omega (arith, ih, length-append (entries_after f v done more) (newest_entry f v (more ++ done) e ∷ []))

after_split : (f : Flow) (v : Start) (done wr more : List Event) → entries_after f v done (more ++ wr) ≡ entries_after f v done wr
    ++ entries_after f v (wr ++ done) more
after_split f v done wr [] = sym (append_none (entries_after f v done wr))
  where
    append_none : (xs : List Entry) → xs ++ [] ≡ xs
    append_none [] = refl
    append_none (x ∷ xs) = ap (λ (l : List Entry). x ∷ l) (append_none xs)
after_split f v done wr (e ∷ more) =
    ap (λ (l : List Entry). l ++ newest_entry f v ((more ++ wr) ++ done) e ∷ []) (after_split f v done wr more)
    ∙ (append_assoc (entries_after f v done wr) (entries_after f v (wr ++ done) more) (newest_entry f v ((more ++ wr) ++ done) e ∷ [])
    ∙ ap (λ (past : List Event). entries_after f v done wr ++ (entries_after f v (wr ++ done) more ++ newest_entry f v past e ∷ []))
    (append_assoc more wr done))

later_split : (f : Flow) (v : Start) (done wr more : List Event) → later_events f v done (more ++ wr) ≡ later_events f v (wr ++ done) more
    ++ later_events f v done wr
later_split f v done wr [] = refl
later_split f v done wr (e ∷ more) =
    ap (λ (l : List SessionEvent). session_event f v ((more ++ wr) ++ done) e ∷ l) (later_split f v done wr more)
    ∙ ap (λ (past : List Event). session_event f v past e ∷ (later_events f v (wr ++ done) more ++ later_events f v done wr)) (append_assoc more wr done)

later_length : (f : Flow) (v : Start) (done more : List Event) → length (later_events f v done more) ≡ length more
later_length f v done [] = refl
later_length f v done (e ∷ more) = let ih = later_length f v done more in omega (arith, ih)

pub events_length : (f : Flow) (v : Start) (past : List Event) → length (session_events f v past) ≡ length past
events_length f v [] = refl
events_length f v (e ∷ past) = let ih = events_length f v past in omega (arith, ih)

-- the entries that are not written

pub late_is : (w : World) (more done : List Event) → w.past ≡ more ++ done → w.mark ≡ length done → late w ≡ entries_after w.flow w.start done more
late_is w more done past mark =
    ap (λ (n : ℕ). drop n (entries w.flow w.start w.past)) (mark ∙ sym (entries_length w.flow w.start done))
    ∙ (ap (λ (es : List Event). drop (length (entries w.flow w.start done)) (entries w.flow w.start es)) past
    ∙ (ap (drop (length (entries w.flow w.start done))) (entries_more w.flow w.start done more) ∙ drop-append_seam (entries w.flow w.start done)
    (entries_after w.flow w.start done more)))

counted : (most : Option ℕ) (n : ℕ) → count_of most n ≤ n
counted None n = omega arith
counted (Some k) n = omega arith

pub batch_is : (w : World) (most : Option ℕ) (rest wr done : List Event) → late w ≡ entries_after w.flow w.start done (rest ++ wr) →
    count_of most (length (late w)) ≡ length wr → batch w most ≡ entries_after w.flow w.start done wr
batch_is w most rest wr done is count =
    ap (λ (n : ℕ). take n (late w)) (count ∙ sym (after_length w.flow w.start done wr))
    ∙ (ap (take (length (entries_after w.flow w.start done wr))) (is ∙ after_split w.flow w.start done wr rest)
    ∙ take-append_seam (entries_after w.flow w.start done wr) (entries_after w.flow w.start (wr ++ done) rest))

-- an outcome law's plant with more written
abbrev written_plant : AbstractPlant → List SessionEvent → List SessionEvent → ℕ → AbstractPlant
written_plant a l wr n = record a { late = l; gone = wr ++ a.gone; mark = n }

-- what is to be written, apart from the rest
pub record Parts (w : World) (most : Option ℕ) (more done : List Event) : Type 0 where
  pub rest : List Event
  pub wr : List Event
  pub is : more ≡ rest ++ wr
  pub count : count_of most (length (late w)) ≡ length wr

pub parts : (w : World) (most : Option ℕ) (more done : List Event) → late w ≡ entries_after w.flow w.start done more → Parts w most more done
parts w most more done is =
    let all : length (late w) ≡ length more = ap length is ∙ after_length w.flow w.start done more in
    let few : count_of most (length (late w)) ≤ length (late w) = counted most (length (late w)) in
    let skip : ℕ = length more - count_of most (length (late w)) in
    record { rest = take skip more; wr = drop skip more; is = sym (take-append-drop skip more); count = omega (arith, all, few, length-drop skip more) }

pub wrote_as : (w : World) (seat : ℕ → Option Seat) (j k : Seen) (a : AbstractPlant) (most : Option ℕ) (n : ℕ) (h : Mirrors w seat j a) →
    Parts w most h.more h.done → IsEngine (record w { mark = n }) → n ≡ w.mark + count_of most (length (late w))
    → (IsClean k → IsClean j) → (k.failed ≡ false → j.failed ≡ false) → (IsClean k → k.tables ≡ all_made (changes_of (batch w most)) j.tables)
    → (b : AbstractPlant) × IsRunOf w.flow [] a b × Mirrors (record w { mark = n }) seat k b
wrote_as w seat j k a most n h parts engine number clean unfailed tables =
    let rest = parts.rest in
    let wr = parts.wr in
    let l : List SessionEvent = later_events w.flow w.start (wr ++ h.done) rest in
    let x : List SessionEvent = later_events w.flow w.start h.done wr in
    let b : AbstractPlant = written_plant a l x n in
    let mark : a.mark ≡ w.mark = h.marked in
    let few : w.mark ≡ length h.done = h.written in
    let count : count_of most (length (late w)) ≡ length wr = parts.count in
    let gone : length a.gone ≡ length h.done = ap length h.gone ∙ events_length w.flow w.start h.done in
    let long : length x ≡ length wr = later_length w.flow w.start h.done wr in
    let room : n ≤ length (x ++ a.gone) = omega (arith, number, few, count, gone, long, length-append x a.gone) in
    let split : a.late ≡ l ++ x = h.late ∙ (ap (later_events w.flow w.start h.done) parts.is ∙ later_split w.flow w.start h.done wr rest) in
    let run : IsRunOf w.flow [] a b = wrote_small w.flow n [] a b (l, x, split, omega (arith, number, mark), room, refl, refl) in
    let past : w.past ≡ rest ++ (wr ++ h.done) = h.past ∙ (ap (λ (es : List Event). es ++ h.done) parts.is ∙ append_assoc rest wr h.done) in
    let now : late w ≡ entries_after w.flow w.start h.done (rest ++ wr) =
    late_is w h.more h.done h.past h.written ∙ ap (entries_after w.flow w.start h.done) parts.is in
    let lawful : IsHistory w.flow w.start w.sessions (wr ++ h.done) =
    begins_lawful w w.sessions rest (wr ++ h.done) (subst (IsHistory w.flow w.start w.sessions) past h.engine.lawful) in (
      b,
      run,
      record {
        engine = engine;
        sessions = h.sessions;
        more = rest;
        done = wr ++ h.done;
        past = past;
        start = h.start;
        late = refl;
        gone = ap (λ (g : List SessionEvent). x ++ g) h.gone ∙ later_whole w.flow w.start h.done wr;
        marked = refl;
        written = omega (arith, number, few, count, length-append wr h.done);
        kept = h.kept;
        tables = λ c u. (let made : k.tables ≡ all_made (changes_of (entries_after w.flow w.start h.done wr)) j.tables =
            tables c ∙ ap (λ (es : List Entry). all_made (changes_of es) j.tables) (batch_is w most rest wr h.done now count) in
            subst (λ (t : Tables). Holds t w.flow w.start (wr ++ h.done)) (sym made)
            (history_kept w.flow w.start w.sessions h.done wr j.tables h.engine.flow h.engine.start lawful (h.tables (clean c) (unfailed u))));
        fits = ran w.flow run.turns a b h.fits run.run;
      },
    )

failed_as : (w : World) (seat : ℕ → Option Seat) (j k : Seen) (a : AbstractPlant) → Mirrors w seat j a → k.failed ≡ true → Mirrors w seat k a
failed_as w seat j k a h failed = record {
  engine = h.engine;
  sessions = h.sessions;
  more = h.more;
  done = h.done;
  past = h.past;
  start = h.start;
  late = h.late;
  gone = h.gone;
  marked = h.marked;
  written = h.written;
  kept = h.kept;
  tables = λ c u. absurd (cc);
  fits = h.fits;
}

wrote : (p q : Whole) (a : AbstractPlant) (m : List Moved) (most : Option ℕ) (n : ℕ) → StandsFor a p → IsEngine q.core.world → m ≡ [] →
    q.core ≡ record p.core { world = q.core.world } → doubt p.journal.is_clean ≤ doubt q.journal.is_clean →
    (q.journal.failed ≡ false → p.journal.failed ≡ false)
    → Writes most p.core.world p.journal (Ok (outcome.Written n)) q.core.world q.journal → Follows p q m a
wrote p q a m most n h engine none core clean unfailed k =
    let w = p.core.world in
    let parted = parts w most h.more h.done (late_is w h.more h.done h.past h.written) in
    let z = wrote_as w (seat_of p.core) p.journal q.journal a most n h parted (subst IsEngine k.1 engine) k.0 (λ c. omega (arith, c, clean)) unfailed k.3 in
    let there : Mirrors (record w { mark = n }) (seat_of q.core) q.journal z.0 =
    reseated (record w { mark = n }) (seat_of p.core) (seat_of q.core) q.journal z.0 z.2 (λ t. ap (λ (c : Core). kept_reply (seat_of c t)) (sym core)) in
    record {
      to = z.0;
      run = subst (λ (new : List PlantDeed). IsRunOf w.flow new a z.0) (ap (deeds w.flow) (sym none)) z.1;
      stands = subst (λ (w : World). Mirrors w (seat_of q.core) q.journal z.0) (sym k.1) there;
      flow = ap (λ (w : World). w.flow) k.1;
    }

not_written : (p q : Whole) (a : AbstractPlant) (m : List Moved) → StandsFor a p → m ≡ [] → q.core ≡ record p.core { world = q.core.world } →
    q.core.world ≡ p.core.world → q.journal.failed ≡ true → Follows p q m a
not_written p q a m h none core world failed = record {
  to = a;
  run = none_small p.core.world.flow (deeds p.core.world.flow m) a a (ap (deeds p.core.world.flow) none, refl);
  stands = subst (λ (w : World). Mirrors w (seat_of q.core) q.journal a) (sym world)
      (reseated p.core.world (seat_of p.core) (seat_of q.core) q.journal a (failed_as p.core.world (seat_of p.core) p.journal q.journal a h failed)
      (λ t. ap (λ (c : Core). kept_reply (seat_of c t)) (sym core)));
  flow = ap (λ (w : World). w.flow) world;
}

pub writes : (p q : Whole) (a : AbstractPlant) (m : List Moved) (most : Option ℕ) (r : Result Outcome JournalError) → StandsFor a p →
    IsEngine q.core.world → m ≡ [] → q.core ≡ record p.core { world = q.core.world } → doubt p.journal.is_clean ≤ doubt q.journal.is_clean →
    (q.journal.failed ≡ false → p.journal.failed ≡ false)
    → Writes most p.core.world p.journal r q.core.world q.journal → Follows p q m a
writes p q a m most (Ok (outcome.Written n)) h engine none core clean unfailed k = wrote p q a m most n h engine none core clean unfailed k
writes p q a m most (Err e) h engine none core clean unfailed k = not_written p q a m h none core k.0 k.1
writes p q a m most (Ok (outcome.Accepted n)) h engine none core clean unfailed k = absurd k
writes p q a m most (Ok (outcome.Refused e)) h engine none core clean unfailed k = absurd k
writes p q a m most (Ok outcome.Idle) h engine none core clean unfailed k = absurd k
writes p q a m most (Ok outcome.Unwritten) h engine none core clean unfailed k = absurd k
writes p q a m most (Ok (outcome.Held c)) h engine none core clean unfailed k = absurd k
writes p q a m most (Ok (outcome.Restarted n)) h engine none core clean unfailed k = absurd k
writes p q a m most (Ok (outcome.Cut n)) h engine none core clean unfailed k = absurd k
