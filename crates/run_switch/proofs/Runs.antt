-- A whole run, from its parts.
-- for: serving::Over, serving::Begun, serving::Switch, serving::run
use Rattle.std.proofs.Common.{◌≡◌, ℕ, ◌-◌, List, ◌++◌, Option, Result, Ok, Err, ap, refl, sym, subst, ◌∙◌}
use Rattle.std.specs.Prelude.{IfOk, OnOk}
use Rattle.std.specs.Io.KnownBytes.{Appends}
use Rattle.flow_model.specs.declared.flow.Flow.{Flow}
use Rattle.sw_issuers.specs.Sending.{PlainSender}
use Rattle.run_responses.specs.declared.sink.ResponseOrder.{ResponseOrder}
use Rattle.run_switch.specs.Legs.{AdvancesFor, lines_of, stage}
use Rattle.tx_history.specs.declared.journal.JournalView.{JournalView}
use Rattle.tx_engine.specs.World.{World}
use Rattle.tx_plant.specs.Plant.{Seen, Whole}
use Rattle.tx_seats.specs.Drives.{IsMade}
use Rattle.run_switch.specs.Advices.{AdviceStep, PlainAdvisor, SendsAll, begun_advisor, stored_at}
use Rattle.run_switch.specs.declared.reporter.LineForm.TheVariants.{Text}
use Rattle.run_switch.specs.Lines.{lines_in, written_as}
use Rattle.run_switch.specs.Points.{IsAtRest, IsReady, Point, world_at}
use Rattle.run_switch.specs.Ran.{Closes, HasBegun, Printed, Ran, ServesAll, ServesTold, all_lines, lines_cut}
use Rattle.run_switch.specs.declared.progress.Progress.{Progress}
use Rattle.run_switch.specs.Numbers.{begun_in, numbers_at}
use Rattle.run_reports.specs.declared.Words.{Words}
use Rattle.run_reports.specs.declared.ready.Recovered.{Recovered}
use Rattle.run_switch.specs.Shown.{SaysReady, ShowsNumbers, TellsAll, TellsRun, unfinished_in, unfinished_of}
use Rattle.run_switch.specs.Traces.{Cuts, DrainsAll, Log, Tells}
use Rattle.run_input.specs.Requests.{passed_over}
use Rattle.run_switch.proofs.Tracing.{lines_before, lines_then}
use Rattle.run_switch.specs.Rounds.{IsEmptied, Recovers, Round}
use Rattle.run_switch.proofs.Recoveries.{made_view}

-- the id of a run's first own transaction
pub first_is : (f : Flow) (n : ℕ) (view : JournalView) (j : Seen) (p : Whole) (first : ℕ) → IsMade f n view j p → first ≡ p.core.world.start.view.next_id →
    first ≡ view.next_id
first_is f n view j p first made is = is ∙ ap (λ (v : JournalView). v.next_id) (made_view f n view j p made)

-- what a recovery of a new plant promises
abbrev pub FirstRecovers : Point → Point → Type 0
FirstRecovers p q = (f : Flow) (n : ℕ) (view : JournalView) (j : Seen) → IsMade f n view j p.plant → p.answered.last ≡ view.next_id - 1 → Recovers p q

pub has_begun : (f : Flow) (n : ℕ) (view : JournalView) (j : Seen) (made : Whole) (first : ℕ) (id : Progress) (r : Point) (sender : PlainSender) (most : ℕ)
    (advisor : PlainAdvisor) (unfinished : Recovered)
    → IsMade f n view j made → first ≡ made.core.world.start.view.next_id → id ≡ begun_in made.core.world first →
    FirstRecovers (record { plant = made; answered = id }) r → advisor ≡ begun_advisor sender most first → unfinished ≡ unfinished_of made
    → HasBegun f n j sender most r advisor unfinished
has_begun f n view j made first id r sender most advisor unfinished is first_at before recovers by left =
    let own : first ≡ view.next_id = first_is f n view j made first is first_at in
    let answered : id ≡ begun_in made.core.world view.next_id = before ∙ ap (begun_in made.core.world) own in
    record {
      begins = record {
        view = view;
        made = made;
        is_made = is;
        recovers = subst (λ (g : Progress). Recovers (record { plant = made; answered = g }) r) answered
            (recovers f n view j is (ap (λ (g : Progress). g.last) answered));
      };
      advisor_is = by ∙ ap (begun_advisor sender most) own;
      unfinished_is = left ∙ ap unfinished_in (made_view f n view j made is);
    }

-- of the same sender
pub begun_by : (f : Flow) (n : ℕ) (j : Seen) (s t : PlainSender) (most : ℕ) (r : Point) (advisor : PlainAdvisor) (unfinished : Recovered) → s ≡ t
    → HasBegun f n j s most r advisor unfinished → HasBegun f n j t most r advisor unfinished
begun_by f n j s t most r advisor unfinished is h = subst (λ (z : PlainSender). HasBegun f n j z most r advisor unfinished) is h

-- all was served, and what it shows was written, with the numbers at its end
abbrev pub EndsTold : AdviceStep → List Round → Point → Option (List ℕ) → Option (List ℕ) → ℕ → Log → Log → PlainAdvisor → Type 0
EndsTold step rounds r a b n k l advisor = (s : ServesAll step rounds r advisor a b) × TellsAll (all_lines s) n s.end k l

-- that it was ready came first
pub told_ready : (step : AdviceStep) (rounds : List Round) (r : Point) (advisor : PlainAdvisor) (a b : Option (List ℕ)) (words : Option Words)
    (unfinished : Recovered) (n : ℕ) (h k l : Log) → SaysReady words unfinished h k → EndsTold step rounds r a b n k l advisor
    → ServesTold step rounds r advisor a b words unfinished n h l
told_ready step rounds r advisor a b words unfinished n h k l ready (serves, tells) = (serves, record { begun = k; ready = ready; all = tells })

-- what the run of a plant that has recovered promises
pub ran_from : (f : Flow) (n : ℕ) (j : Seen) (sender : PlainSender) (most : ℕ) (r : Point) (advisor : PlainAdvisor) (unfinished : Recovered)
    (step : AdviceStep) (rounds : List Round) (a b : Option (List ℕ)) (words : Option Words) (passed : ℕ) (k l : Log)
    → HasBegun f n j sender most r advisor unfinished → ServesTold step rounds r advisor a b words unfinished passed k l
    → (ran : Ran f n j step sender most rounds a b)
    × TellsRun words (unfinished_in ran.begins.view) (all_lines ran.serves) passed ran.serves.end k l
ran_from f n j sender most r advisor unfinished step rounds a b words passed k l h told =
    let sends : ServesTold step rounds r (begun_advisor sender most h.begins.view.next_id) a b words unfinished passed k l =
    subst (λ (s : PlainAdvisor). ServesTold step rounds r s a b words unfinished passed k l) h.advisor_is told in
    let (serves, tells) = subst (λ (u : Recovered). ServesTold step rounds r (begun_advisor sender most h.begins.view.next_id) a b words u passed k l)
    h.unfinished_is sends in
    (record { recovered = r; begins = h.begins; serves = serves }, tells)

-- the lines that were left were written, and the numbers last
pub told_last : (step : AdviceStep) (rounds : List Round) (p : Point) (advisor : PlainAdvisor) (a b : Option (List ℕ)) (n : ℕ) (k l m o : Log) (q : Point)
    (w : World) → (s : ServesAll step rounds p advisor a b) → s.end ≡ q → w ≡ world_at q
    → Tells (lines_cut s) n k l → Tells (lines_in w) 0 l m → ShowsNumbers (numbers_at q m.passed) m o → EndsTold step rounds p a b n k o advisor
told_last step rounds p advisor a b n k l m o q w s end is cut left shows =
    let same : w ≡ world_at s.end = is ∙ ap world_at (sym end) in (
      s,
      record {
        between = m;
        tells = lines_then (lines_cut s) (lines_in (world_at s.end)) n k l m cut (subst (λ (v : World). Tells (lines_in v) 0 l m) same left);
        shows = subst (λ (z : Point). ShowsNumbers (numbers_at z m.passed) m o) (sym end) shows;
      },
    )

pub printed : (f : Flow) (n : ℕ) (j : Seen) (sender : PlainSender) (most : ℕ) (r : Point) (advisor : PlainAdvisor) (unfinished : Recovered)
    (a b : Option (List ℕ)) → HasBegun f n j sender most r advisor unfinished → Appends a b (written_as Text (lines_in (world_at r))) → Printed f n j a b
printed f n j sender most r advisor unfinished a b h prints = record { recovered = r; begins = h.begins; prints = prints }

-- what holds of what was served and written holds of the result
pub through_both : {T E : Type 0} {P Q : T → Type 0} {R : Type 0} (s : Result T E) (t : Result (Unit {0}) E) (r : Result T E) → IfOk r (λ x. s ≡ Ok x) →
    OnOk r (t ≡ Ok tt) → IfOk s P → OnOk t R → ((x : T) → P x → R → Q x) → IfOk r Q
through_both {T} {E} {P} {Q} {R} s t (Ok x) is first h k f =
    f x (subst (λ (z : Result T E). IfOk z P) is h) (subst (λ (z : Result (Unit {0}) E). OnOk z R) first k)
through_both s t (Err e) is first h k f = tt

-- the end of a run, and what it wrote

pub closed : (step : AdviceStep) (p q r : Point) (s t : PlainAdvisor) (a b : Option (List ℕ)) (k l : Log) → (d : DrainsAll p a k q b l) →
    SendsAll step (stored_at q) s q t r → IsAtRest r → IsEmptied (world_at r)
    → (c : Closes step p s a r t b) × Tells c.drains.serves.lines 0 k l
closed step p q r s t a b k l d sends rest emptied =
    (record { drained = q; drains = d.drains; sends = sends; rest = rest; emptied = emptied }, d.tells)

-- a cut, rounds, and the end, one after the other
pub all_served : (header : ℕ) (step : AdviceStep) (threads : Option ResponseOrder) (frames : List (List ℕ)) (p q r t : Point) (s v u : PlainAdvisor) (a b c : Option (List ℕ))
    (k l m o : Log) → Cuts p k q l → IsReady q → (f : AdvancesFor header step threads frames (stage s q a) l (stage v r b) m)
    → (d : Closes step r v b t u c) × Tells d.drains.serves.lines 0 m o → (all : ServesAll step f.rounds p s a c) × (all.end ≡ t) × Tells (lines_cut all)
    (passed_over header frames) k o
all_served header step threads frames p q r t s v u a b c k l m o cuts ready f (d, tells) = (
  record {
    begun = q;
    cut = cuts.lines;
    cuts = cuts.cuts;
    ready = ready;
    served = stage v r b;
    serves = f.advances;
    drained = d.drained;
    drains = d.drains;
    sent = u;
    end = t;
    sends = d.sends;
    rest = d.rest;
    emptied = d.emptied;
  },
  refl,
  lines_before cuts.lines (lines_of f.advances ++ d.drains.serves.lines) (passed_over header frames) k l o cuts.tells
      (lines_then (lines_of f.advances) d.drains.serves.lines (passed_over header frames) l m o f.tells tells),
)
