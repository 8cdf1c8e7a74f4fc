-- The first name that the flow does not have.
-- for: engine::opening::check_rows
use Rattle.std.proofs.Common.{◌≡◌, ℕ, ◌<◌, Bool, true, false, List, [], ◌∷◌, ◌++◌, length, Option, Some, None, refl, sym, ◌∙◌, ap, subst, arith, suc, zero}
use Rattle.std.specs.Prelude.{if◌then◌else◌, slice_get, nat_lt, ◌==◌}
use Rattle.std.specs.List.{All}
use Rattle.std.proofs.lemmas.Bool.Decides.{nat_tests}
use Rattle.std.proofs.lemmas.List.Elements.{All-nil, All-cons}
use Rattle.sw_base.specs.Refusals.{or_else}
use Rattle.flow_model.specs.declared.flow.Flow.{Flow}
use Rattle.flow_model.specs.Places.{parts_of}
use Rattle.tx_history.specs.declared.journal.JournalView.{JournalView}
use Rattle.tx_history.specs.declared.journal.Row.{Row}
use Rattle.tx_history.specs.Keys.{look}
use Rattle.tx_history.specs.History.{number_of, to_tell}
use Rattle.tx_history.specs.Views.{IsOk, StartFits, WaitingFits}
use Rattle.tx_engine.specs.declared.error.EngineError.{EngineError}
use Rattle.tx_engine.specs.declared.error.EngineError.TheVariants as error
use Rattle.tx_engine.specs.declared.error.EngineError.TheVariants.{UnknownParticipant}
use Rattle.tx_slots.specs.Rows.{AreKnown}
use Rattle.tx_engine.specs.Opening.{IsOpenRefusal, first_start, unknown_in, unknown_of}
use Rattle.tx_engine.proofs.Breaks.{none_of}
use Rattle.tx_engine.proofs.FilledMaps.{get_first}
use Rattle.tx_history.proofs.NextStarts.{Known}

pub unknown_append : (f : Flow) (id : ℕ) (xs ys : List (List ℕ)) → unknown_in f id (xs ++ ys) ≡ or_else (unknown_in f id xs) (unknown_in f id ys)
unknown_append f id [] ys = refl
unknown_append f id (x ∷ xs) ys = by (nat_lt (number_of f x) (length (parts_of f))) (unknown_append f id xs ys)
  where
    by : (b : Bool) → unknown_in f id (xs ++ ys) ≡ or_else (unknown_in f id xs) (unknown_in f id ys)
        → (if b then unknown_in f id (xs ++ ys) else Some (UnknownParticipant id x))
        ≡ or_else (if b then unknown_in f id xs else Some (UnknownParticipant id x)) (unknown_in f id ys)
    by true ih = ih
    by false ih = refl

names_known : (f : Flow) (id : ℕ) (names : List (List ℕ)) → unknown_in f id names ≡ None → All (Known f) names
names_known f id [] h = All-nil (Known f)
names_known f id (x ∷ names) h = by (nat_lt (number_of f x) (length (parts_of f))) refl (names_known f id names) h
  where
    by : (b : Bool) → nat_lt (number_of f x) (length (parts_of f)) ≡ b → (unknown_in f id names ≡ None → All (Known f) names) →
        (if b then unknown_in f id names else Some (UnknownParticipant id x)) ≡ None → All (Known f) (x ∷ names)
    by true e ih h = let lt : number_of f x < length (parts_of f) = grind (arith, nat_tests) in All-cons (Known f) x names lt (ih h)
    by false e ih h = absurd (cc)

-- where no name is unknown, the flow has every participant that is to be notified
pub rows_known : (f : Flow) (rows : List (ℕ × Row)) → unknown_of f rows ≡ None → AreKnown f rows
rows_known f [] h k r there = absurd (cc)
rows_known f (x ∷ rows) h zero r there = let w = none_of (unknown_in f x.0 (to_tell x.1 x.1.doing)) (unknown_of f rows) h in
    subst (λ (y : ℕ × Row). All (Known f) (to_tell y.1 y.1.doing)) (get_first x r there) (names_known f x.0 (to_tell x.1 x.1.doing) w.0)
rows_known f (x ∷ rows) h (suc k) r there = let w = none_of (unknown_in f x.0 (to_tell x.1 x.1.doing)) (unknown_of f rows) h in rows_known f rows w.1 k r there

-- what is found under an id stands somewhere
looked : (rows : List (ℕ × Row)) (id : ℕ) (r : Row) (P : Row → Type 0) → ((k : ℕ) (x : ℕ × Row) → slice_get rows k ≡ Some x → P x.1) →
    look id rows ≡ Some r → P r
looked [] id r P all h = absurd (cc)
looked (x ∷ rows) id r P all h = by (x.0 == id) (looked rows id r P (λ k y there. all (suc k) y there)) h
  where
    by : (b : Bool) → (look id rows ≡ Some r → P r) → (if b then Some x.1 else look id rows) ≡ Some r → P r
    by true ih h = subst P (get_first x.1 r h) (all zero x refl)
    by false ih h = ih h

pub start_fits : (f : Flow) (j : JournalView) → IsOk j → AreKnown f j.rows → StartFits f (first_start j)
start_fits f j ok known = record {
  view = ok;
  queue = All-nil WaitingFits;
  knows =
      λ id r h. looked j.rows id r (λ (r : Row). All (Known f) (to_tell r r.doing)) known h;
}

-- the first of two refusals is reported first
pub told_first : (a b : Option EngineError) (e : EngineError) → IsOpenRefusal a e → IsOpenRefusal (or_else a b) e
told_first (Some x) b e h = h
told_first None b error.OutOfMemory h = tt
told_first None b (error.UnknownParticipant id name) h = absurd (cc)
told_first None b error.BadSessions h = absurd (cc)
told_first None b error.Busy h = absurd (cc)
told_first None b error.Empty h = absurd (cc)
told_first None b error.Recovering h = absurd (cc)
told_first None b error.IdsSpent h = absurd (cc)
told_first None b error.NotDue h = absurd (cc)
told_first None b error.NoAdvice h = absurd (cc)
told_first None b error.NoParticipant h = absurd (cc)
told_first None b error.NotHeld h = absurd (cc)
told_first None b error.BadMark h = absurd (cc)
told_first None b error.NoSession h = absurd (cc)
told_first None b error.HistoryFull h = absurd (cc)
told_first None b error.InUse h = absurd (cc)
told_first None b error.NotWritten h = absurd (cc)

-- a member that is unknown comes before the participant of `doing`
pub member_told : (f : Flow) (id : ℕ) (r : Row) (d : Option (List ℕ)) (e : EngineError) → IsOpenRefusal (unknown_in f id r.joined) e →
    IsOpenRefusal (unknown_in f id (to_tell r d)) e
member_told f id r None e h = h
member_told f id r (Some name) e h = subst (λ (o : Option EngineError). IsOpenRefusal o e) (sym (unknown_append f id r.joined (name ∷ [])))
    (told_first (unknown_in f id r.joined) (unknown_in f id (name ∷ [])) e h)

-- where all members are known, it is by the participant of `doing`
pub doing_told : (f : Flow) (id : ℕ) (r : Row) (name : List ℕ) → unknown_in f id r.joined ≡ None →
    unknown_in f id (to_tell r (Some name)) ≡ unknown_in f id (name ∷ [])
doing_told f id r name h = unknown_append f id r.joined (name ∷ []) ∙ ap (λ (o : Option EngineError). or_else o (unknown_in f id (name ∷ []))) h
