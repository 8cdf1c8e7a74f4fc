-- The entries that an opening makes, and that they leave all but the rows.
-- for: engine::opening::closings
use Rattle.std.proofs.Common.{◌≡◌, ℕ, ◌+◌, Bool, true, false, List, [], ◌∷◌, ◌++◌, length, Some, None, refl, sym, ◌∙◌, ap, subst, arith, suc, zero, take}
use Rattle.std.proofs.Common.{length-append}
use Rattle.std.specs.Prelude.{if◌then◌else◌, slice_get, nat_lt, nat_le, not}
use Rattle.std.proofs.lemmas.Bool.Decides.{nat_tests}
use Rattle.std.proofs.lemmas.List.{length-map}
use Rattle.flow_model.specs.declared.flow.Flow.{Flow}
use Rattle.tx_history.specs.declared.event.Event.{Event}
use Rattle.tx_history.specs.declared.event.Event.TheVariants.{Closed}
use Rattle.tx_history.specs.declared.event.Entry.{Entry}
use Rattle.tx_history.specs.declared.journal.Row.{Row}
use Rattle.tx_history.specs.History.{Start, is_ended, number_of, reopened, to_tell}
use Rattle.tx_history.specs.Journal.{entries, to_close}
use Rattle.tx_history.specs.Lives.{closes_of}
use Rattle.tx_history.proofs.OwnItems.{old_outcome}
use Rattle.tx_engine.specs.Opening.{closing_entry}
use Rattle.tx_engine.proofs.FilledMaps.{get_first}

-- whether a row has nobody to notify

over_is : (f : Flow) (r : Row) → is_ended f (reopened f r) ≡ not (nat_lt r.told (length (to_tell r r.doing)))
over_is f r = (old_outcome f r []).ended ∙ ap (λ (n : ℕ). not (nat_lt r.told n)) (length-map (to_tell r r.doing) (number_of f))

pub over_none : (f : Flow) (r : Row) → r.doing ≡ None → nat_le (length r.joined) r.told ≡ is_ended f (reopened f r)
over_none f r e = let t : not (nat_lt r.told (length r.joined)) ≡ nat_le (length r.joined) r.told = grind (arith, nat_tests) in sym (over_is f r ∙ (rw e t))

pub over_some : (f : Flow) (r : Row) (name : List ℕ) → r.doing ≡ Some name → nat_lt (length r.joined) r.told ≡ is_ended f (reopened f r)
over_some f r name e =
    let len : length (r.joined ++ name ∷ []) ≡ length r.joined + 1 = length-append r.joined (name ∷ []) in
    let t : not (nat_lt r.told (length r.joined + 1)) ≡ nat_lt (length r.joined) r.told = grind (arith, nat_tests) in
    sym (over_is f r ∙ (rw (e, len) t))

-- closing entries in the order of their ids

pub length_entries : (f : Flow) (v : Start) (past : List Event) → length (entries f v past) ≡ length past
length_entries f v [] = refl
length_entries f v (e ∷ past) = omega (arith, length_entries f v past, length-append (entries f v past))

closes_more : (ids : List ℕ) (id : ℕ) (past : List Event) → closes_of (ids ++ id ∷ []) past ≡ Closed id ∷ closes_of ids past
closes_more [] id past = refl
closes_more (i ∷ ids) id past = closes_more ids id (Closed i ∷ past)

append_nil : {A : Type 0} (xs : List A) → xs ++ [] ≡ xs
append_nil [] = refl
append_nil (x ∷ xs) = ap (λ l. x ∷ l) (append_nil xs)

-- one row more
close_next : (f : Flow) (rows : List (ℕ × Row)) (i : ℕ) (r : ℕ × Row) → slice_get rows i ≡ Some r →
    to_close f (take (suc i) rows) ≡ to_close f (take i rows) ++ (if is_ended f (reopened f r.1) then r.0 ∷ [] else [])
close_next f [] i r h = absurd (cc)
close_next f (x ∷ rows) zero r h = let same : x ≡ r = get_first x r h in
    subst (λ (y : ℕ × Row). (if is_ended f (reopened f x.1) then x.0 ∷ [] else []) ≡ (if is_ended f (reopened f y.1) then y.0 ∷ [] else [])) same refl
close_next f (x ∷ rows) (suc i) r h = by (is_ended f (reopened f x.1)) (close_next f rows i r h)
  where
    by : (b : Bool) → to_close f (take (suc i) rows) ≡ to_close f (take i rows) ++ (if is_ended f (reopened f r.1) then r.0 ∷ [] else [])
        → (if b then x.0 ∷ to_close f (take (suc i) rows) else to_close f (take (suc i) rows))
        ≡ (if b then x.0 ∷ to_close f (take i rows) else to_close f (take i rows)) ++ (if is_ended f (reopened f r.1) then r.0 ∷ [] else [])
    by true ih = ap (λ (l : List ℕ). x.0 ∷ l) ih
    by false ih = ih

pub closing_made : (f : Flow) (v : Start) (rows : List (ℕ × Row)) (i : ℕ) (r : ℕ × Row) (made : List Entry) → slice_get rows i ≡ Some r →
    is_ended f (reopened f r.1) ≡ true → made ≡ entries f v (closes_of (to_close f (take i rows)) [])
    → made ++ closing_entry (length made + 1) r.0 ∷ [] ≡ entries f v (closes_of (to_close f (take (i + 1) rows)) [])
closing_made f v rows i r made h over is =
    let past : List Event = closes_of (to_close f (take i rows)) [] in
    let one : suc i ≡ i + 1 = omega arith in
    let len : length made ≡ length past = ap (λ (l : List Entry). length l) is ∙ length_entries f v past in
    let grown : to_close f (take (suc i) rows) ≡ to_close f (take i rows) ++ r.0 ∷ [] = rw over at (close_next f rows i r h) in
    let more : closes_of (to_close f (take (i + 1) rows)) [] ≡ Closed r.0 ∷ past = ap (λ (k : ℕ). closes_of (to_close f (take k rows)) []) (sym one)
    ∙ (ap (λ (l : List ℕ). closes_of l []) grown ∙ closes_more (to_close f (take i rows)) r.0 []) in
    rw (more, len) (ap (λ (l : List Entry). l ++ closing_entry (length past + 1) r.0 ∷ []) is)

pub closing_kept : (f : Flow) (v : Start) (rows : List (ℕ × Row)) (i : ℕ) (r : ℕ × Row) (made : List Entry) → slice_get rows i ≡ Some r →
    is_ended f (reopened f r.1) ≡ false → made ≡ entries f v (closes_of (to_close f (take i rows)) [])
    → made ≡ entries f v (closes_of (to_close f (take (i + 1) rows)) [])
closing_kept f v rows i r made h over is =
    let one : suc i ≡ i + 1 = omega arith in
    let grown : to_close f (take (suc i) rows) ≡ to_close f (take i rows) ++ [] = rw over at (close_next f rows i r h) in
    let same : to_close f (take (i + 1) rows) ≡ to_close f (take i rows) = ap (λ (k : ℕ). to_close f (take k rows)) (sym one)
    ∙ (grown ∙ append_nil (to_close f (take i rows))) in
    is ∙ ap (λ (l : List ℕ). entries f v (closes_of l [])) (sym same)
