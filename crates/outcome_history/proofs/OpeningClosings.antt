-- The closing entries of an opening are of the rows with nobody to notify, each once.
-- for: laws::views_fit
use Rattle.std.proofs.Common.{◌≡◌, ℕ, ◌+◌, ◌<◌, ◌≤◌, Bool, true, false, List, [], ◌∷◌, ◌++◌, length, map, Option, Some, None, refl, sym, ◌∙◌, ap, arith}
use Rattle.std.proofs.Common.{length-append}
use Rattle.std.specs.Prelude.{if◌then◌else◌, ◌==◌, ◌||◌, nat_lt, not, option_map}
use Rattle.std.proofs.lemmas.List.{append-nil, length-map}
use Rattle.std.proofs.lemmas.Bool.Decides.{nat_tests}
use Rattle.flow_model.specs.declared.flow.Flow.{Flow}
use Rattle.tx_machine.specs.Row.{Row as TxRow}
use Rattle.tx_machine.specs.Table.{is_open}
use Rattle.outcome_calls.specs.Trail.{listed, one_of}
use Rattle.outcome_calls.specs.Core.{IdView, Closings, Shuts, closed}
use Rattle.outcome_calls.specs.Plant.{shut_ids}
use Rattle.tx_history.specs.declared.journal.Row.{Row}
use Rattle.tx_history.specs.Keys.{look, Rising}
use Rattle.tx_history.specs.History.{Start, number_of, to_tell, reopened, is_ended}
use Rattle.tx_history.specs.Journal.{to_close}
use Rattle.tx_history.specs.Views.{IsOk, RowFits}
use Rattle.tx_history.proofs.RisingKeys.{look_within}
use Rattle.tx_history.proofs.OwnItems.{old_outcome}
use Rattle.outcome_history.specs.Looked.{numbered, id_view, stacked, closings}
use Rattle.outcome_history.proofs.LookedRows.{LookedRow, found_row}

-- those who are notified of a journalled transaction's outcome

pub map_push : (h : List ℕ → ℕ) (xs : List (List ℕ)) (x : List ℕ) → map h xs ++ h x ∷ [] ≡ map h (xs ++ x ∷ [])
map_push h [] x = refl
map_push h (y ∷ ys) x = ap (λ (l : List ℕ). h y ∷ l) (map_push h ys x)

listed_by : (f : Flow) (r : Row) (o : Option (List ℕ)) → map (number_of f) r.joined ++ one_of (option_map (number_of f) o) ≡ map (number_of f) (to_tell r o)
listed_by f r None = append-nil (map (number_of f) r.joined)
listed_by f r (Some n) = map_push (number_of f) r.joined n

pub listed_told : (f : Flow) (r : Row) → listed (numbered f r) ≡ map (number_of f) (to_tell r r.doing)
listed_told f r = listed_by f r r.doing

-- nobody to notify

none_left : (told : ℕ) (xs : List ℕ) → told ≡ 0 → not (nat_lt told (length xs)) ≡ true → xs ≡ []
none_left told [] z h = refl
none_left told (x ∷ xs) z h = absurd (grind (arith, nat_tests))

pub more_names : (r : Row) (o : Option (List ℕ)) → length r.joined ≤ length (to_tell r o)
more_names r None = omega arith
more_names r (Some n) = omega (arith, length-append r.joined)

over_untold : (f : Flow) (r : Row) (b : Bool) → is_open r.phase ≡ b → RowFits r → not (nat_lt r.told (length (map (number_of f) (to_tell r r.doing))))
    ≡ true → r.told ≡ 0
over_untold f r true e fits h = (fits.untold e).0
over_untold f r false e fits h =
    let less : r.told < length r.joined = (fits.telling e).1 in
    let more : length r.joined ≤ length (to_tell r r.doing) = more_names r r.doing in
    let same : length (map (number_of f) (to_tell r r.doing)) ≡ length (to_tell r r.doing) = length-map (to_tell r r.doing) (number_of f) in
    absurd (grind (arith, nat_tests))

pub over_nobody : (f : Flow) (r : Row) → RowFits r → is_ended f (reopened f r) ≡ true → listed (numbered f r) ≡ []
over_nobody f r fits over =
    let h = sym (old_outcome f r []).ended ∙ over in
    listed_told f r ∙ none_left r.told (map (number_of f) (to_tell r r.doing)) (over_untold f r (is_open r.phase) refl fits h) h

nobody_left : (told : ℕ) (xs : List ℕ) → xs ≡ [] → not (nat_lt told (length xs)) ≡ true
nobody_left told [] h = grind (arith, nat_tests)
nobody_left told (x ∷ xs) h = absurd (cc)

pub nobody_over : (f : Flow) (r : Row) → listed (numbered f r) ≡ [] → is_ended f (reopened f r) ≡ true
nobody_over f r h = (old_outcome f r []).ended ∙ nobody_left r.told (map (number_of f) (to_tell r r.doing)) (sym (listed_told f r) ∙ h)

-- each is closed once

abbrev Rows : Flow → IdView → List (ℕ × Row) → Type 0
Rows f j rows = (id : ℕ) (r : Row) → look id rows ≡ Some r → (j.row id ≡ Some (numbered f r)) × RowFits r

rows_after : (f : Flow) (j : IdView) (x : ℕ × Row) (rows : List (ℕ × Row)) (m : ℕ) → Rising (x.0 + 1) m rows → Rows f j (x ∷ rows) → Rows f j rows
rows_after f j x rows m rise all id r h =
    let w = (look_within rows (x.0 + 1) m id r rise h).0 in
    let other : (x.0 == id) ≡ false = grind (arith, nat_tests) in
    all id r (rw other h)

closings_if : (f : Flow) (j : IdView) (x : ℕ × Row) (rows : List (ℕ × Row)) (past : List ℕ) → (j.row x.0 ≡ Some (numbered f x.1)) × RowFits x.1 →
    Closings j (shut_ids past) → closed (shut_ids past) x.0 ≡ false
    → (Closings j (shut_ids (x.0 ∷ past)) → Closings j (shut_ids (stacked (to_close f rows) (x.0 ∷ past)))) →
    Closings j (shut_ids (stacked (to_close f rows) past))
    → (b : Bool) → is_ended f (reopened f x.1) ≡ b → Closings j (shut_ids (stacked (if b then x.0 ∷ to_close f rows else to_close f rows) past))
closings_if f j x rows past here cs new more less true e = more ((numbered f x.1, here.0, over_nobody f x.1 here.1 e), new, cs)
closings_if f j x rows past here cs new more less false e = less

still_open : (x : ℕ) (past : List ℕ) (n : ℕ) → n ≤ x → ((id : ℕ) → n ≤ id → closed (shut_ids past) id ≡ false) → (id : ℕ) → x + 1 ≤ id →
    closed (shut_ids (x ∷ past)) id ≡ false
still_open x past n le clear id lt =
    let other : (x == id) ≡ false = grind (arith, nat_tests) in
    rw other (clear id (omega arith))

pub closings_hold : (f : Flow) (j : IdView) (rows : List (ℕ × Row)) (n m : ℕ) (past : List ℕ) → Rising n m rows → Rows f j rows →
    Closings j (shut_ids past) → ((id : ℕ) → n ≤ id → closed (shut_ids past) id ≡ false)
    → Closings j (shut_ids (stacked (to_close f rows) past))
closings_hold f j [] n m past rise all cs clear = cs
closings_hold f j (x ∷ rows) n m past rise all cs clear =
    let lo : n ≤ x.0 = rise.0 in
    let yes : (x.0 == x.0) ≡ true = grind (arith, nat_tests) in
    let later : Rows f j rows = rows_after f j x rows m rise.2 all in
    closings_if f j x rows past (all x.0 x.1 (rw yes refl)) cs (clear x.0 lo)
    (λ more. closings_hold f j rows (x.0 + 1) m (x.0 ∷ past) rise.2 later more (still_open x.0 past n lo clear))
    (closings_hold f j rows (x.0 + 1) m past rise.2 later cs (λ id le. clear id (omega arith)))
    (is_ended f (reopened f x.1)) refl

-- and each with nobody to notify is closed

or_yes : (x y : Bool) → y ≡ true → (x || y) ≡ true
or_yes true y h = refl
or_yes false y h = h

stays_closed : (ids past : List ℕ) (id : ℕ) → closed (shut_ids past) id ≡ true → closed (shut_ids (stacked ids past)) id ≡ true
stays_closed [] past id h = h
stays_closed (i ∷ ids) past id h = stays_closed ids (i ∷ past) id (or_yes (i == id) (closed (shut_ids past) id) h)

covers_if : (f : Flow) (x : ℕ × Row) (rows : List (ℕ × Row)) (past : List ℕ) (id : ℕ) (q : Row) → is_ended f (reopened f q) ≡ true →
    ((past : List ℕ) → look id rows ≡ Some q → closed (shut_ids (stacked (to_close f rows) past)) id ≡ true)
    → (b c : Bool) → is_ended f (reopened f x.1) ≡ b → (x.0 == id) ≡ c → (if c then Some x.1 else look id rows) ≡ Some q
    → closed (shut_ids (stacked (if b then x.0 ∷ to_close f rows else to_close f rows) past)) id ≡ true
covers_if f x rows past id q over ih true true e s h = stays_closed (to_close f rows) (x.0 ∷ past) id (rw s refl)
covers_if f x rows past id q over ih true false e s h = ih (x.0 ∷ past) h
covers_if f x rows past id q over ih false true e s h =
    let same : x.1 ≡ q = grind (arith, h) in
    let yes : is_ended f (reopened f x.1) ≡ true = rw same over in
    absurd (cc)
covers_if f x rows past id q over ih false false e s h = ih past h

pub covers_hold : (f : Flow) (rows : List (ℕ × Row)) (past : List ℕ) (id : ℕ) (q : Row) → is_ended f (reopened f q) ≡ true → look id rows ≡ Some q →
    closed (shut_ids (stacked (to_close f rows) past)) id ≡ true
covers_hold f [] past id q over h = absurd (cc)
covers_hold f (x ∷ rows) past id q over h = covers_if f x rows past id q over (λ ids k. covers_hold f rows ids id q over k) (is_ended f (reopened f x.1))
    (x.0 == id) refl refl h

covered : (f : Flow) (v : Start) (id : ℕ) (r : TxRow) → LookedRow f (look id v.view.rows) r → listed r ≡ [] → closed (shut_ids (closings f v)) id ≡ true
covered f v id r k none = covers_hold f v.view.rows [] id k.row (nobody_over f k.row (ap listed k.is ∙ none)) k.there

pub closings_shut : (f : Flow) (v : Start) → IsOk v.view → Shuts (id_view f v.view) (shut_ids (closings f v))
closings_shut f v ok = (
  closings_hold f (id_view f v.view) v.view.rows 1 v.view.next_id [] ok.ordered.rows (λ id r h. (ap (option_map (numbered f)) h, ok.rows id r h)) tt
      (λ id le. refl),
  λ id r h none. covered f v id r (found_row f (look id v.view.rows) r h) none,
)
