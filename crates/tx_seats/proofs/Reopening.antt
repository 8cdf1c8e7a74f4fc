-- An engine is opened on whatever tables hold the journal of a plant's written entries.
-- for: laws::stops_are_not_refused
use Rattle.std.proofs.Common.{◌≡◌, ℕ, ◌+◌, ◌≤◌, ◌<◌, Bool, true, false, List, [], ◌∷◌, ◌++◌, length, Option, Some, None, Ok, refl, sym, ◌∙◌, ap, subst, arith}
use Rattle.std.specs.Prelude.{if◌then◌else◌, nat_lt, ◌==◌, ◌||◌}
use Rattle.std.specs.List.{All}
use Rattle.std.proofs.lemmas.Bool.Decides.{nat_tests}
use Rattle.std.proofs.lemmas.List.Elements.{All-head, All-tail}
use Rattle.sw_base.specs.Refusals.{first_of, or_else, refused_if}
use Rattle.flow_model.specs.declared.flow.Flow.{Flow}
use Rattle.flow_model.specs.Places.{parts_of}
use Rattle.tx_history.specs.declared.event.Event.{Event}
use Rattle.tx_history.specs.declared.journal.JournalView.{JournalView}
use Rattle.tx_history.specs.declared.journal.Row.{Row}
use Rattle.tx_history.specs.Keys.{Rising, look}
use Rattle.tx_history.specs.History.{Start, number_of, to_tell}
use Rattle.tx_history.specs.Journal.{journal}
use Rattle.tx_history.specs.Views.{IsHistory}
use Rattle.tx_history.proofs.NextStarts.{stopped_fits, Known}
use Rattle.tx_history.proofs.RisingKeys.{look_within}
use Rattle.journal_store.proofs.HistoryChanges.{earlier}
use Rattle.tx_engine.specs.declared.error.EngineError.{EngineError}
use Rattle.tx_engine.specs.declared.error.EngineError.TheVariants.{BadSessions, UnknownParticipant}
use Rattle.tx_engine.specs.Opening.{are_bad_sessions, open_refusal, unknown_in, unknown_of}
use Rattle.tx_engine.specs.World.{World}
use Rattle.tx_plant.specs.declared.turn.Outcome.TheVariants as outcome
use Rattle.tx_plant.specs.Plant.{IsClean, IsEngine, Stops, Whole}
use Rattle.tx_plant.specs.Steps.{Moved}
use Rattle.tx_plant.specs.Written.{Written}
use Rattle.tx_seats.specs.Seated.{Seated}

-- where the flow knows all names, none is unknown

names_known : (f : Flow) (id : ℕ) (names : List (List ℕ)) → All (Known f) names → unknown_in f id names ≡ None
names_known f id [] all = refl
names_known f id (x ∷ names) all =
    let low : number_of f x < length (parts_of f) = All-head (Known f) x names all in
    let here : nat_lt (number_of f x) (length (parts_of f)) ≡ true = grind (arith, nat_tests) in
    ap (λ (b : Bool). if b then unknown_in f id names else Some (UnknownParticipant id x)) here ∙ names_known f id names (All-tail (Known f) x names all)

rows_known : (f : Flow) (n m : ℕ) (rows : List (ℕ × Row)) → Rising n m rows →
    ((id : ℕ) (r : Row) → look id rows ≡ Some r → All (Known f) (to_tell r r.doing)) → unknown_of f rows ≡ None
rows_known f n m [] rising known = refl
rows_known f n m (x ∷ rows) rising known =
    let same : x.0 == x.0 ≡ true = grind (arith, nat_tests) in
    let here = names_known f x.0 (to_tell x.1 x.1.doing) (known x.0 x.1 (ap (λ (b : Bool). if b then Some x.1 else look x.0 rows) same)) in
    ap (λ (o : Option EngineError). or_else o (unknown_of f rows)) here ∙ rows_known f (x.0 + 1) m rows rising.2 later
  where
    later : (id : ℕ) (r : Row) → look id rows ≡ Some r → All (Known f) (to_tell r r.doing)
    later id r there =
        let above : x.0 + 1 ≤ id = (look_within rows (x.0 + 1) m id r rising.2 there).0 in
        let other : x.0 == id ≡ false = grind (arith, nat_tests) in
        known id r (ap (λ (b : Bool). if b then Some x.1 else look id rows) other ∙ there)

good_sessions : (n : ℕ) → 1 ≤ n → n ≤ 16 → are_bad_sessions n ≡ false
good_sessions n some few =
    let one : nat_lt n 1 ≡ false = grind (arith, nat_tests) in
    let other : nat_lt 16 n ≡ false = grind (arith, nat_tests) in (λ i. one i || other i)

before : (f : Flow) (v : Start) (n : ℕ) (late gone : List Event) → IsHistory f v n (late ++ gone) → IsHistory f v n gone
before f v n [] gone h = h
before f v n (e ∷ late) gone h = before f v n late gone (earlier f v n (late ++ gone) e h)

-- an engine may be opened on the journal of the written entries
opens_written : (w : World) (late gone : List Event) → IsEngine w → 1 ≤ w.sessions → w.past ≡ late ++ gone →
    open_refusal w.flow (journal w.flow w.start gone) w.sessions ≡ None
opens_written w late gone engine some all =
    let lawful = before w.flow w.start w.sessions late gone (subst (IsHistory w.flow w.start w.sessions) all engine.lawful) in
    let fits = stopped_fits w.flow w.start gone w.sessions engine.flow engine.start lawful.few lawful.sessions lawful.spelled lawful.lawful in
    let view = journal w.flow w.start gone in
    let none = rows_known w.flow 1 view.next_id view.rows fits.view.ordered.rows fits.knows in
    (λ i. first_of (refused_if (good_sessions w.sessions some lawful.few i) BadSessions ∷ none i ∷ []))

no_error : (e : EngineError) → None ≡ Some e → ⊥
no_error e h = absurd (cc)

pub stop_refused : (e : EngineError) (m : List Moved) (p q : Whole) → Seated p.core → Written p.core.world p.journal.tables → IsClean q.journal →
    Stops m p (Ok (outcome.Refused e)) q → ⊥
stop_refused e m p q seated written clean stops =
    let w = p.core.world in
    let unopened = stops.1 in
    let read = unopened.2.view_is clean in
    let is = sym read.reads ∙ written.holds.stands.reads in
    no_error e (sym (opens_written w written.late written.gone seated.engine seated.sessions written.all)
    ∙ ap (λ (v : JournalView). open_refusal w.flow v w.sessions) (sym is) ∙ unopened.3)
