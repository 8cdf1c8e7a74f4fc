-- A plant as it is made, and the law of all that it does.
-- for: laws::plants_keep_the_law, laws::stops_keep_the_law
use Rattle.std.proofs.Common.{inl, inr, ◌≡◌, ℕ, ◌+◌, ◌-◌, ◌≤◌, false, List, [], ◌∷◌, ◌++◌, length, drop, Option, None, refl, sym, Some, ◌∙◌, ap}
use Rattle.std.proofs.Common.{subst, arith, append-nil, length-append, take, append_assoc}
use Rattle.std.specs.Prelude.{nat_lt, ◌||◌}
use Rattle.std.proofs.Math.Seq.{drop-append_seam}
use Rattle.std.proofs.lemmas.List.{take-append-drop, length-drop}
use Rattle.flow_model.specs.declared.flow.Flow.{Flow}
use Rattle.outcome_calls.specs.Core.{IdView, OutcomeLaw, PlantDeed}
use Rattle.outcome_calls.specs.Plant.{AbstractPlant, made_on, view}
use Rattle.outcome_calls.proofs.CoreMoves.{law_blank}
use Rattle.outcome_calls.proofs.PlantMoves.{sane_law, sane_opens}
use Rattle.tx_history.specs.declared.event.Event.{Event}
use Rattle.tx_history.specs.declared.journal.JournalView.{JournalView}
use Rattle.tx_history.specs.Journal.{journal}
use Rattle.tx_history.specs.Lives.{opened}
use Rattle.tx_history.proofs.Changes.{journal_first}
use Rattle.outcome_history.specs.Looked.{closings, id_view}
use Rattle.outcome_history.proofs.LastEntries.{opened_shut}
use Rattle.outcome_history.proofs.LookedRows.{view_fits}
use Rattle.outcome_history.proofs.OpeningClosings.{closings_shut}
use Rattle.journal_rows.specs.Tables.{Tables, all_made}
use Rattle.journal_rows.specs.Law.{changes_of}
use Rattle.journal_rows.specs.Reads.{IsOrdered, read as read_of}
use Rattle.journal_rows.specs.Faults.{IsFaultIn}
use Rattle.tx_engine.specs.World.{World}
use Rattle.tx_engine.specs.Opening.{first_start, opened_world, unknown_of}
use Rattle.tx_plant.specs.declared.seat.Seat.{Seat}
use Rattle.tx_plant.specs.Core.{seat_of}
use Rattle.tx_plant.specs.Steps.{Moved}
use Rattle.tx_plant.specs.Plant.{IsClean, IsEngine, Seen, Whole, batch, count_of, late}
use Rattle.journal_store.specs.Histories.{Holds, entries_after}
use Rattle.journal_store.proofs.HistoryChanges.{history_kept}
use Rattle.tx_history.specs.declared.event.Entry.{Entry}
use Rattle.tx_history.specs.Views.{IsHistory}
use Rattle.outcome_plant.specs.Deeds.{deeds}
use Rattle.outcome_plant.specs.Mirrors.{Mirrors, StandsFor}
use Rattle.outcome_plant.specs.Lives.{AreLives, HoldsOf, IsLeft, Life, MayLeave, all_calls, blank_view, calls_in, journal_of, oldest}
use Rattle.tx_seats.specs.Drives.{AllDriven, Drive, IsMade}
use Rattle.outcome_plant.proofs.Sameness.{begins_lawful, view_there}
use Rattle.outcome_plant.proofs.Growth.{Follows}
use Rattle.outcome_plant.proofs.Writing.{after_length, batch_is, late_is, parts, wrote_as}
use Rattle.outcome_plant.proofs.Stopping.{fresh_kept, fresh_world, later_first}
use Rattle.outcome_plant.proofs.Driving.{all_driven, was_clean_all}
use Rattle.tx_seats.proofs.FreeSessions.{some_session}

-- as it is made

made_as : (f : Flow) (n : ℕ) (v : JournalView) (j : Seen) (p : Whole) (before : List PlantDeed) → IsMade f n v j p → IsClean p.journal →
    OutcomeLaw before (id_view f v)
    → Mirrors (opened_world f v n) (seat_of p.core) p.journal (made_on (id_view f v) (closings f (first_start v)) before)
made_as f n v j p before made clean law =
    let o = made.opened in
    let ok = o.is_fresh.ok in
    let world : p.core.world ≡ opened_world f v n = fresh_world f n v j p.core p.journal o in
    let read = o.reads.view_is clean in
    let same : p.journal.tables ≡ j.tables = o.reads.tables clean in
    record {
      engine = subst IsEngine world made.engine;
      sessions = some_session n (nat_lt n 1 || nat_lt 16 n) (unknown_of f v.rows) refl o.allowed;
      more = opened f (first_start v);
      done = [];
      past = sym (rw append-nil refl);
      start = refl;
      late = sym (opened_shut f (first_start v)) ∙ sym (later_first f (first_start v) (opened f (first_start v)));
      gone = refl;
      marked = refl;
      written = refl;
      kept = λ s. sym (fresh_kept f n v j p.core p.journal s o);
      tables = λ c u. record {
        stands = record {
          ordered = subst IsOrdered (sym same) (o.reads.stands c).ordered;
          reads =
              ap (λ (t : Tables). read_of t) same ∙ (read.reads ∙ sym (journal_first f (first_start v) ok.ordered));
        };
        sound = subst (λ (t : Tables). IsFaultIn t None) (sym same) read.sound;
      };
      fits = sane_opens f (id_view f v) (closings f (first_start v)) before law (view_fits f v ok) (closings_shut f (first_start v) ok);
    }

-- what is written

written_is : (w : World) (seat : ℕ → Option Seat) (j : Seen) (a : AbstractPlant) (m : Mirrors w seat j a) → drop (length w.past - w.mark) w.past ≡ m.done
written_is w seat j a m =
    let long : length w.past ≡ length (m.more ++ m.done) = ap length m.past in
    let few : w.mark ≡ length m.done = m.written in
    let count : length w.past - w.mark ≡ length m.more = omega (arith, long, few, length-append m.more m.done) in
    ap (λ (n : ℕ). drop n w.past) count ∙ (ap (drop (length m.more)) m.past ∙ drop-append_seam m.more m.done)

law_of_all : (w : World) (seat : ℕ → Option Seat) (j : Seen) (a : AbstractPlant) (calls : List PlantDeed) → Mirrors w seat j a → a.calls ≡ calls →
    OutcomeLaw calls (id_view w.flow (journal_of w w.mark))
law_of_all w seat j a calls m is =
    let there : view w.flow a ≡ id_view w.flow (journal_of w w.mark) =
    view_there w seat j a m ∙ ap (λ (es : List Event). id_view w.flow (journal w.flow w.start es)) (sym (written_is w seat j a m)) in
    subst (λ (cs : List PlantDeed). OutcomeLaw cs (id_view w.flow (journal_of w w.mark))) is
    (subst (λ (j : IdView). OutcomeLaw a.calls j) there (sane_law w.flow a m.fits).0)

-- a journal as if its next entries, at most this many, had been written
abbrev written_so : World → Seen → Option ℕ → Seen
written_so w j most = record { tables = all_made (changes_of (batch w most)) j.tables; failed = j.failed; is_clean = j.is_clean }

-- the law does not ask that the mark has moved over what is written
law_ahead : (w : World) (seat : ℕ → Option Seat) (j : Seen) (a : AbstractPlant) (calls : List PlantDeed) (k : ℕ) → Mirrors w seat j a → a.calls ≡ calls →
    w.mark ≤ k → k ≤ length w.past → OutcomeLaw calls (id_view w.flow (journal_of w k))
law_ahead w seat j a calls k m is lo hi =
    let most : Option ℕ = Some (k - w.mark) in
    let e = m.engine in
    let further : IsEngine (record w { mark = k }) = record { flow = e.flow; start = e.start; lawful = e.lawful; marked = hi } in
    let now = late_is w m.more m.done m.past m.written in
    let room : length (late w) ≡ length m.more = ap length now ∙ after_length w.flow w.start m.done m.more in
    let long : length w.past ≡ length (m.more ++ m.done) = ap length m.past in
    let few : w.mark ≡ length m.done = m.written in
    let number : k ≡ w.mark + count_of most (length (late w)) = omega (arith, lo, hi, room, long, few, length-append m.more m.done) in
    let z = wrote_as w seat j (written_so w j most) a most k m (parts w most m.more m.done now) further number (λ c. c) (λ u. u) (λ c. refl) in
    law_of_all (record w { mark = k }) seat (written_so w j most) z.0 calls z.2 (z.1.calls ∙ is)

holds_now : (q : Whole) (calls : List PlantDeed) (a : AbstractPlant) → StandsFor a q → IsClean q.journal → a.calls ≡ calls → HoldsOf calls q
holds_now q calls a m clean is =
    let w = q.core.world in
    record {
      engine = m.engine;
      law = λ k lo hi. law_ahead w (seat_of q.core) q.journal a calls k m is lo hi;
      tables = λ u. subst (Holds q.journal.tables w.flow w.start) (sym (written_is w (seat_of q.core) q.journal a m)) (m.tables clean u);
    }

plants_follow : (f : Flow) (n : ℕ) (v : JournalView) (j : Seen) (before : List PlantDeed) (ds : List Drive) (m : List Moved) (p q : Whole) →
    IsMade f n v j p → OutcomeLaw before (id_view f v) → AllDriven ds m p q → IsClean q.journal → HoldsOf (all_calls f m v before) q × (q.core.world.flow ≡ f)
plants_follow f n v j before ds m p q made law k clean =
    let world : p.core.world ≡ opened_world f v n = fresh_world f n v j p.core p.journal made.opened in
    let a : AbstractPlant = made_on (id_view f v) (closings f (first_start v)) before in
    let first : StandsFor a p = subst (λ (w : World). Mirrors w (seat_of p.core) p.journal a) (sym world)
    (made_as f n v j p before made (was_clean_all ds m p q clean k) law) in
    let last : Follows p q m a = all_driven ds m p q a first clean k in
    let calls : last.to.calls ≡ all_calls f m v before = last.run.calls ∙ ap (λ (w : World). deeds w.flow m ++ a.calls) world in
    (holds_now q (all_calls f m v before) last.to last.stands clean calls, last.flow ∙ ap (λ (w : World). w.flow) world)

pub plants_keep : (f : Flow) (n : ℕ) (v : JournalView) (j : Seen) (before : List PlantDeed) (ds : List Drive) (m : List Moved) (p q : Whole) →
    IsMade f n v j p → OutcomeLaw before (id_view f v) → AllDriven ds m p q → IsClean q.journal → HoldsOf (all_calls f m v before) q
plants_keep f n v j before ds m p q made law k clean = (plants_follow f n v j before ds m p q made law k clean).0

-- the next plant, made on the journal of this one
pub made_again : (n : ℕ) (v : JournalView) (calls : List PlantDeed) (q p : Whole) → HoldsOf calls q → q.journal.failed ≡ false →
    IsMade q.core.world.flow n v q.journal p → IsClean p.journal → OutcomeLaw calls (id_view q.core.world.flow v)
made_again n v calls q p h unfailed made clean =
    let w = q.core.world in
    let same : journal_of w w.mark ≡ v = sym (h.tables unfailed).stands.reads ∙ (made.opened.reads.view_is clean).reads in
    subst (λ (v : JournalView). OutcomeLaw calls (id_view w.flow v)) same (h.law w.mark (omega arith) h.engine.marked)

-- what a failed write may leave
pub may_leave : (calls : List PlantDeed) (q : Whole) (most : Option ℕ) → HoldsOf calls q → q.journal.failed ≡ false → MayLeave q most
may_leave calls q most h unfailed =
    let w = q.core.world in
    let skip : ℕ = length w.past - w.mark in
    let done : List Event = oldest w w.mark in
    let room = h.engine.marked in
    let split : w.past ≡ take skip w.past ++ done = sym (take-append-drop skip w.past) in
    let few : w.mark ≡ length done = omega (arith, room, length-drop skip w.past) in
    let now = late_is w (take skip w.past) done split few in
    let k = parts w most (take skip w.past) done now in
    let past : w.past ≡ k.rest ++ (k.wr ++ done) = split ∙ (ap (λ (es : List Event). es ++ done) k.is ∙ append_assoc k.rest k.wr done) in
    let count : count_of most (length (late w)) ≡ length k.wr = k.count in
    let long : length w.past ≡ length (k.rest ++ (k.wr ++ done)) = ap length past in
    let unwritten : length w.past - (w.mark + count_of most (length (late w))) ≡ length k.rest =
    omega (arith, long, few, count, length-append k.rest (k.wr ++ done), length-append k.wr done) in
    let is : oldest w (w.mark + count_of most (length (late w))) ≡ k.wr ++ done =
    ap (λ (n : ℕ). drop n w.past) unwritten ∙ (ap (drop (length k.rest)) past ∙ drop-append_seam k.rest (k.wr ++ done)) in
    let lawful : IsHistory w.flow w.start w.sessions (k.wr ++ done) =
    begins_lawful w w.sessions k.rest (k.wr ++ done) (subst (IsHistory w.flow w.start w.sessions) past h.engine.lawful) in
    let written : batch w most ≡ entries_after w.flow w.start done k.wr =
    batch_is w most k.rest k.wr done (now ∙ ap (entries_after w.flow w.start done) k.is) count in
    let held : Holds (all_made (changes_of (entries_after w.flow w.start done k.wr)) q.journal.tables) w.flow w.start (k.wr ++ done) =
    history_kept w.flow w.start w.sessions done k.wr q.journal.tables h.engine.flow h.engine.start lawful (h.tables unfailed) in
    subst (λ (es : List Event). Holds (all_made (changes_of (batch w most)) q.journal.tables) w.flow w.start es) (sym is)
    (subst (λ (es : List Entry). Holds (all_made (changes_of es) q.journal.tables) w.flow w.start (k.wr ++ done)) (sym written) held)

pub blank_keeps : (f : Flow) (n : ℕ) (j : Seen) (ds : List Drive) (m : List Moved) (p q : Whole) → IsMade f n blank_view j p → AllDriven ds m p q →
    IsClean q.journal → HoldsOf (all_calls f m blank_view []) q
blank_keeps f n j ds m p q made k clean = plants_keep f n blank_view j [] ds m p q made (law_blank (id_view f blank_view) (λ id. refl) (λ id place. refl)) k
    clean

-- a plant on what a stop left, wherever that came

-- the events of a journal's entries are the oldest ones
gone_is : (w : World) (more gone : List Event) (k : ℕ) → w.past ≡ more ++ gone → k ≡ length gone → oldest w k ≡ gone
gone_is w more gone k past few =
    let long : length w.past ≡ length (more ++ gone) = ap length past in
    let count : length w.past - k ≡ length more = omega (arith, long, few, length-append more gone) in
    ap (λ (n : ℕ). drop n w.past) count ∙ (ap (drop (length more)) past ∙ drop-append_seam more gone)

-- it was made on the journal of some of the entries, and no fewer than are written
on_some : (n : ℕ) (v : JournalView) (calls : List PlantDeed) (q p : Whole) (j : Seen) (more gone : List Event) (k : ℕ) → HoldsOf calls q →
    q.core.world.past ≡ more ++ gone → k ≡ length gone → q.core.world.mark ≤ k
    → Holds j.tables q.core.world.flow q.core.world.start gone → IsMade q.core.world.flow n v j p → IsClean p.journal →
    OutcomeLaw calls (id_view q.core.world.flow v)
on_some n v calls q p j more gone k h past few above holds made clean =
    let w = q.core.world in
    let within : k ≤ length w.past = (let long : length w.past ≡ length (more ++ gone) = ap length past in
    omega (arith, long, few, length-append more gone)) in
    let same : journal_of w k ≡ v = ap (journal w.flow w.start) (gone_is w more gone k past few)
    ∙ (sym holds.stands.reads ∙ (made.opened.reads.view_is clean).reads) in
    subst (λ (v : JournalView). OutcomeLaw calls (id_view w.flow v)) same (h.law k above within)

pub made_on_left : (n more : ℕ) (v : JournalView) (calls : List PlantDeed) (q p : Whole) (j : Seen) → HoldsOf calls q → IsLeft q more j.tables →
    IsMade q.core.world.flow n v j p → IsClean p.journal → OutcomeLaw calls (id_view q.core.world.flow v)
made_on_left n more v calls q p j h (inl t) made clean = on_some n v calls q p j t.late t.gone q.core.world.mark h t.all t.mark
    (omega arith) t.holds made clean
made_on_left n more v calls q p j h (inr t) made clean = on_some n v calls q p j t.late t.gone (q.core.world.mark + more) h t.all t.mark (omega arith)
    t.holds made clean

-- life after life

begins_by : (f : Flow) (n more : ℕ) (v : JournalView) (calls : List PlantDeed) (q p : Whole) (j : Seen) → HoldsOf calls q → q.core.world.flow ≡ f →
    IsLeft q more j.tables → IsMade f n v j p → IsClean p.journal → OutcomeLaw calls (id_view f v)
begins_by f n more v calls q p j h same left made clean =
    subst (λ (g : Flow). OutcomeLaw calls (id_view g v)) same
    (made_on_left n more v calls q p j h left (subst (λ (g : Flow). IsMade g n v j p) (sym same) made) clean)

all_lives : (f : Flow) (l : Life) (ls : List Life) → AreLives f (l ∷ ls) → HoldsOf (calls_in f (l ∷ ls)) l.last × (l.last.core.world.flow ≡ f)
all_lives f l [] (is, blank, _) =
    let law : OutcomeLaw [] (id_view f l.view) = subst (λ (v : JournalView). OutcomeLaw [] (id_view f v)) (sym blank)
    (law_blank (id_view f blank_view) (λ id. refl) (λ id place. refl)) in
    plants_follow f l.sessions l.view l.found [] l.drives l.moves l.first l.last is.made law is.driven is.clean
all_lives f l (b ∷ ls) (is, left, before) =
    let h = all_lives f b ls before in
    let first : IsClean l.first.journal = was_clean_all l.drives l.moves l.first l.last is.clean is.driven in
    let law : OutcomeLaw (calls_in f (b ∷ ls)) (id_view f l.view) = begins_by f l.sessions left.0 l.view (calls_in f (b ∷ ls)) b.last l.first l.found h.0
    h.1 left.1 is.made first in
    plants_follow f l.sessions l.view l.found (calls_in f (b ∷ ls)) l.drives l.moves l.first l.last is.made law is.driven is.clean

pub lives_keep : (f : Flow) (l : Life) (ls : List Life) → AreLives f (l ∷ ls) → HoldsOf (calls_in f (l ∷ ls)) l.last
lives_keep f l ls are = (all_lives f l ls are).0
