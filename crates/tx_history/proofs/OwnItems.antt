-- Whose an item is: what a session serves, and what its own items are.
-- for: laws::items_are_of_their_holders
use Rattle.std.proofs.Common.{◌≡◌, ◌≢◌, ℕ, ◌+◌, ◌<◌, ◌≤◌, Bool, true, false, ◌⊎◌, inl, inr, List, [], ◌∷◌, length, Option, Some, None, refl, sym, ◌∙◌, subst}
use Rattle.std.proofs.Common.{arith, length-append}
use Rattle.std.specs.Prelude.{if◌then◌else◌, ◌==◌, nat_lt, not}
use Rattle.std.proofs.lemmas.Bool.Decides.{nat_tests}
use Rattle.flow_model.specs.declared.flow.Flow.{Flow}
use Rattle.tx_machine.specs.declared.values.Phase.{Phase}
use Rattle.tx_machine.specs.declared.values.Phase.TheVariants.{Preparing, Aborting, Committing, Undoing}
use Rattle.tx_machine.specs.declared.values.Due.TheVariants.{Commit, Abort, Shelve, Done}
use Rattle.tx_machine.specs.declared.values.Item.{Item}
use Rattle.tx_machine.specs.declared.values.Item.TheVariants.{Answer, Choice, Told as ToldOne}
use Rattle.tx_machine.specs.Table.{TxState, Upcoming, Prepare, Select, is_open, answered_at, chosen_at}
use Rattle.tx_machine.specs.Due.{due_of}
use Rattle.tx_machine.proofs.StepBounds.{reopened_open}
use Rattle.tx_history.specs.declared.event.Event.{Event}
use Rattle.tx_history.specs.declared.event.Event.TheVariants.{Offered, Taken, Answered, Chose, Told, Recovered, Released, Acked, Broke, Cleared, LetGo, Closed}
use Rattle.tx_history.specs.declared.journal.Row.{Row}
use Rattle.tx_history.specs.Keys.{Rising, look}
use Rattle.tx_machine.specs.Bounds.{after_newest}
use Rattle.tx_history.specs.History.{Start, reopened, is_ended, is_over, is_committing, takes, next_id, taken, is_id, first_unfinished, or_taken, serves}
use Rattle.tx_history.specs.History.{own_items, recovering, is_fresh, arrivals, state_of, held_of, holds}
use Rattle.tx_history.specs.Journal.{IsLawful}
use Rattle.tx_history.specs.Views.{IsOrdered}
use Rattle.tx_history.proofs.RisingKeys.{look_other, look_within}

-- a journalled transaction

-- nothing but the number told changes
pub record Old (st to : TxState) : Type 0 where
  pub phase : to.phase ≡ st.phase
  pub rest : to.rest ≡ []
  pub retry : to.retry ≡ false
  pub joined : to.joined ≡ st.joined
  pub saved : to.saved ≡ st.saved
  pub tries : to.tries ≡ st.tries
  pub told : st.told ≤ to.told

no_answer : (s : TxState) (b : ℕ) (c : List ℕ) (ms : List Upcoming) → ms ≡ [] → answered_at s b c ms ≡ s
no_answer s b c [] h = refl
no_answer s b c (Prepare e ∷ ms) h = absurd (cc)
no_answer s b c (Select e ∷ ms) h = absurd (cc)

no_choice : (f : Flow) (s : TxState) (t : List ℕ) (ms : List Upcoming) → ms ≡ [] → chosen_at f s t ms ≡ s
no_choice f s t [] h = refl
no_choice f s t (Prepare e ∷ ms) h = absurd (cc)
no_choice f s t (Select e ∷ ms) h = absurd (cc)

pub old_stays : (f : Flow) (st : TxState) (items : List Item) → st.rest ≡ [] → st.retry ≡ false → Old st (after_newest f st items)
old_stays f st [] r t = record { phase = refl; rest = r; retry = t; joined = refl; saved = refl; tries = refl; told = omega arith }
old_stays f st (Answer b c ∷ items) r t =
    let ih = old_stays f st items r t in
    subst (Old st) (sym (no_answer (after_newest f st items) b c (after_newest f st items).rest ih.rest)) ih
old_stays f st (Choice c ∷ items) r t =
    let ih = old_stays f st items r t in
    subst (Old st) (sym (no_choice f (after_newest f st items) c (after_newest f st items).rest ih.rest)) ih
old_stays f st (ToldOne a ∷ items) r t =
    let ih = old_stays f st items r t in
    let more = ih.told in
    record { phase = ih.phase; rest = ih.rest; retry = ih.retry; joined = ih.joined; saved = ih.saved; tries = ih.tries; told = omega arith }

-- it ends when all are notified, and never on the shelf
pub record AtOutcome (f : Flow) (s : TxState) : Type 0 where
  pub ended : is_ended f s ≡ not (nat_lt s.told (length s.joined))
  pub unshelved : due_of f s ≡ Shelve → ⊥

commit_over : (b : Bool) (p : ℕ) → is_over (if b then Commit p else Done) ≡ not b
commit_over true p = refl
commit_over false p = refl

abort_over : (b : Bool) (p : ℕ) → is_over (if b then Abort p else Done) ≡ not b
abort_over true p = refl
abort_over false p = refl

commit_kept : (b : Bool) (p : ℕ) → (if b then Commit p else Done) ≡ Shelve → ⊥
commit_kept true p h = cc
commit_kept false p h = cc

abort_kept : (b : Bool) (p : ℕ) → (if b then Abort p else Done) ≡ Shelve → ⊥
abort_kept true p h = cc
abort_kept false p h = cc

outcome_at : (f : Flow) (s : TxState) (p : Phase) → s.phase ≡ p → is_open p ≡ false → s.retry ≡ false → AtOutcome f s
outcome_at f s Preparing e o r = absurd (cc)
outcome_at f s Aborting e o r = absurd (cc)
outcome_at f s Committing e o r = record {
  ended = rw e (commit_over (nat_lt s.told (length s.joined)) _);
  unshelved = rw e (commit_kept (nat_lt s.told (length s.joined)) _);
}
outcome_at f s Undoing e o r = record {
  ended = rw (e, r) (abort_over (nat_lt s.told (length s.joined)) _);
  unshelved = rw (e, r) (abort_kept (nat_lt s.told (length s.joined)) _);
}

pub old_outcome : (f : Flow) (r : Row) (items : List Item) → AtOutcome f (after_newest f (reopened f r) items)
old_outcome f r items =
    let w = old_stays f (reopened f r) items refl refl in
    outcome_at f (after_newest f (reopened f r) items) (reopened f r).phase w.phase (reopened_open (is_committing r.phase)) w.retry

more_told : (n m k : ℕ) → n ≤ m → not (nat_lt n k) ≡ true → not (nat_lt m k) ≡ true
more_told n m k le h = grind (arith, nat_tests)

-- one with nobody to notify stays ended
pub ended_stays : (f : Flow) (r : Row) (items : List Item) → is_ended f (reopened f r) ≡ true → is_ended f (after_newest f (reopened f r) items) ≡ true
ended_stays f r items h =
    let w = old_stays f (reopened f r) items refl refl in
    let a = old_outcome f r [] in
    let b = old_outcome f r items in
    b.ended ∙ (rw w.joined (more_told (reopened f r).told (after_newest f (reopened f r) items).told (length (reopened f r).joined) w.told (sym a.ended ∙ h)))

-- whom a session serves

pub record FoundRow (f : Flow) (rows : List (ℕ × Row)) (items : ℕ → List Item) (id : ℕ) : Type 0 where
  pub row : Row
  pub there : look id rows ≡ Some row
  pub unfinished : is_ended f (after_newest f (reopened f row) (items id)) ≡ false

found_if : (f : Flow) (r : ℕ × Row) (rows : List (ℕ × Row)) (items : ℕ → List Item) (n m id : ℕ) → Rising n m (r ∷ rows) →
    (first_unfinished f rows items ≡ Some id → FoundRow f rows items id)
    → (b : Bool) → is_ended f (after_newest f (reopened f r.1) (items r.0)) ≡ b → (if b then first_unfinished f rows items else Some r.0) ≡ Some id →
    FoundRow f (r ∷ rows) items id
found_if f r rows items n m id rise ih true e h =
    let w = ih h in
    record { row = w.row; there = look_other r rows m id w.row rise.2 w.there; unfinished = w.unfinished }
found_if f r rows items n m id rise ih false e h =
    let same : r.0 ≡ id = grind (arith) in
    let yes : (r.0 == r.0) ≡ true = grind (arith, nat_tests) in
    subst (λ (i : ℕ). FoundRow f (r ∷ rows) items i) same (record { row = r.1; there = rw yes refl; unfinished = e })

pub found : (f : Flow) (rows : List (ℕ × Row)) (items : ℕ → List Item) (n m id : ℕ) → Rising n m rows → first_unfinished f rows items ≡ Some id →
    FoundRow f rows items id
found f [] items n m id rise h = absurd (cc)
found f (r ∷ rows) items n m id rise h =
    found_if f r rows items n m id rise (found f rows items (r.0 + 1) m id rise.2) (is_ended f (after_newest f (reopened f r.1) (items r.0))) refl h

-- only the items of journalled transactions count
pub open_same : (f : Flow) (rows : List (ℕ × Row)) (a b : ℕ → List Item) (n m : ℕ) → Rising n m rows → ((j : ℕ) → n ≤ j → j < m → a j ≡ b j) →
    first_unfinished f rows a ≡ first_unfinished f rows b
open_same f [] a b n m rise same = refl
open_same f (r ∷ rows) a b n m rise same =
    let lo = rise.0 in
    let ih = open_same f rows a b (r.0 + 1) m rise.2 (λ j c d. same j (omega arith) d) in
    let here : a r.0 ≡ b r.0 = same r.0 lo rise.1 in
    rw (here, ih) refl

pick : (b : Bool) (o t : Option ℕ) (id : ℕ) → (if b then or_taken o t else t) ≡ Some id → (o ≡ Some id) ⊎ (t ≡ Some id)
pick true None t id h = inr h
pick true (Some k) t id h = inl h
pick false o t id h = inr h

pub serves_one : (f : Flow) (v : Start) (past : List Event) (s id : ℕ) → serves f v past s ≡ Some id →
    (recovering f v past ≡ Some id) ⊎ (taken v past s ≡ Some id)
serves_one f v past s id h = pick (s == 0) (recovering f v past) (taken v past s) id h

pub is_yes : (o : Option ℕ) (id : ℕ) → o ≡ Some id → is_id o id ≡ true
is_yes None id h = absurd (cc)
is_yes (Some k) id h = grind (arith, nat_tests)

pub is_no : (o : Option ℕ) (id : ℕ) → (o ≡ Some id → ⊥) → is_id o id ≡ false
is_no None id h = refl
is_no (Some k) id h = grind (arith, nat_tests)

pub is_other : (o : Option ℕ) (id j : ℕ) → o ≡ Some id → j ≢ id → is_id o j ≡ false
is_other o id j h d = is_no o j (λ e. d (cc))

-- an id that was taken is below the next id, and not a journalled one

pub taken_below : (v : Start) (past : List Event) (s id : ℕ) → taken v past s ≡ Some id → id < next_id v past
taken_below v [] s id h = absurd (cc)
taken_below v (Offered x ∷ past) s id h = taken_below v past s id h
taken_below v (Taken t ∷ past) s id h = grind (arith, nat_tests, taken_below v past s id)
taken_below v (Answered t b x ∷ past) s id h = taken_below v past s id h
taken_below v (Chose t x ∷ past) s id h = taken_below v past s id h
taken_below v (Told t x ∷ past) s id h = taken_below v past s id h
taken_below v (Recovered t x ∷ past) s id h = taken_below v past s id h
taken_below v (Released ∷ past) s id h = taken_below v past s id h
taken_below v (Acked k n ∷ past) s id h = taken_below v past s id h
taken_below v (Broke p ∷ past) s id h = taken_below v past s id h
taken_below v (Cleared p ∷ past) s id h = taken_below v past s id h
taken_below v (LetGo t ∷ past) s id h = taken_below v past s id h
taken_below v (Closed k ∷ past) s id h = taken_below v past s id h

pub taken_from : (v : Start) (past : List Event) (s id : ℕ) → taken v past s ≡ Some id → v.view.next_id ≤ id
taken_from v [] s id h = absurd (cc)
taken_from v (Offered x ∷ past) s id h = taken_from v past s id h
taken_from v (Taken t ∷ past) s id h = grind (arith, nat_tests, taken_from v past s id)
taken_from v (Answered t b x ∷ past) s id h = taken_from v past s id h
taken_from v (Chose t x ∷ past) s id h = taken_from v past s id h
taken_from v (Told t x ∷ past) s id h = taken_from v past s id h
taken_from v (Recovered t x ∷ past) s id h = taken_from v past s id h
taken_from v (Released ∷ past) s id h = taken_from v past s id h
taken_from v (Acked k n ∷ past) s id h = taken_from v past s id h
taken_from v (Broke p ∷ past) s id h = taken_from v past s id h
taken_from v (Cleared p ∷ past) s id h = taken_from v past s id h
taken_from v (LetGo t ∷ past) s id h = taken_from v past s id h
taken_from v (Closed k ∷ past) s id h = taken_from v past s id h

-- an id that is served is in the journal, or was taken
pub serves_below : (f : Flow) (v : Start) (past : List Event) (s id : ℕ) → IsOrdered v.view → serves f v past s ≡ Some id → (1 ≤ id) × (id < next_id v past)
serves_below f v past s id o h = elim (serves_one f v past s id h) [
  | inl old ↦ (let w = found f v.view.rows (own_items f v past) 1 v.view.next_id id o.rows old in
      let k = look_within v.view.rows 1 v.view.next_id id w.row o.rows w.there in
      let hi = k.1 in (k.0, omega arith))
  | inr new ↦ (let a = taken_below v past s id new in let b = taken_from v past s id new in let c = o.next in (omega arith, a))
]

-- a journalled id that is served has its row there
pub serves_old : (f : Flow) (v : Start) (past : List Event) (s id : ℕ) → IsOrdered v.view → serves f v past s ≡ Some id → id < v.view.next_id →
    FoundRow f v.view.rows (own_items f v past) id
serves_old f v past s id o h lt = elim (serves_one f v past s id h) [
  | inl old ↦ found f v.view.rows (own_items f v past) 1 v.view.next_id id o.rows old
  | inr new ↦ absurd (let b = taken_from v past s id new in omega arith)
]

-- the id of the next take has nothing
pub fresh_none : (f : Flow) (v : Start) (past : List Event) (id : ℕ) → IsOrdered v.view → next_id v past ≤ id → is_fresh f v past id ≡ false
fresh_none f v [] id o h = refl
fresh_none f v (Offered x ∷ past) id o h = fresh_none f v past id o h
fresh_none f v (Taken t ∷ past) id o h = fresh_none f v past id o (omega arith)
fresh_none f v (Answered t b x ∷ past) id o h = rw (is_no (serves f v past t) id (λ e. let w = (serves_below f v past t id o e).1 in omega arith))
    (fresh_none f v past id o h)
fresh_none f v (Chose t x ∷ past) id o h = rw (is_no (serves f v past t) id (λ e. let w = (serves_below f v past t id o e).1 in omega arith))
    (fresh_none f v past id o h)
fresh_none f v (Told t x ∷ past) id o h = rw (is_no (serves f v past t) id (λ e. let w = (serves_below f v past t id o e).1 in omega arith))
    (fresh_none f v past id o h)
fresh_none f v (Recovered t x ∷ past) id o h = fresh_none f v past id o h
fresh_none f v (Released ∷ past) id o h = refl
fresh_none f v (Acked k n ∷ past) id o h = fresh_none f v past id o h
fresh_none f v (Broke p ∷ past) id o h = fresh_none f v past id o h
fresh_none f v (Cleared p ∷ past) id o h = fresh_none f v past id o h
fresh_none f v (LetGo t ∷ past) id o h = fresh_none f v past id o h
fresh_none f v (Closed k ∷ past) id o h = fresh_none f v past id o h

-- the state of a transaction with a row is what its items leave of the row's
pub old_state : (f : Flow) (v : Start) (past : List Event) (id : ℕ) (r : Row) → nat_lt id v.view.next_id ≡ true → look id v.view.rows ≡ Some r →
    state_of f v past id ≡ after_newest f (reopened f r) (own_items f v past id)
old_state f v past id r lt h = rw (lt, h) refl

-- what is held is served and not over
held_in : (f : Flow) (v : Start) (past : List Event) (o : Option ℕ) (id : ℕ) → held_of f v past o ≡ Some id →
    (o ≡ Some id) × (is_ended f (state_of f v past id) ≡ false)
held_in f v past None id h = absurd (cc)
held_in f v past (Some k) id h = held_if (is_ended f (state_of f v past k)) refl h
  where
    held_if : (b : Bool) → is_ended f (state_of f v past k) ≡ b → (if b then None else Some k) ≡ Some id →
        (Some k ≡ Some id) × (is_ended f (state_of f v past id) ≡ false)
    held_if true e h = absurd (cc)
    held_if false e h = let same : k ≡ id = grind (arith) in (h, subst (λ (i : ℕ). is_ended f (state_of f v past i) ≡ false) same e)

pub holds_serves : (f : Flow) (v : Start) (past : List Event) (s id : ℕ) → holds f v past s ≡ Some id →
    (serves f v past s ≡ Some id) × (is_ended f (state_of f v past id) ≡ false)
holds_serves f v past s id h = held_in f v past (serves f v past s) id h

-- no more was taken than arrived
pub room : (f : Flow) (v : Start) (past : List Event) → IsLawful f v past → takes past ≤ length (arrivals f v past)
room f v [] law = omega arith
room f v (Offered x ∷ past) law = omega (arith, room f v past law.2, length-append (arrivals f v past))
room f v (Taken t ∷ past) law = let a = law.0.2 in omega arith
room f v (Answered t b x ∷ past) law = room f v past law.2
room f v (Chose t x ∷ past) law = room f v past law.2
room f v (Told t x ∷ past) law = room f v past law.2
room f v (Recovered t x ∷ past) law = room f v past law.2
room f v (Released ∷ past) law = omega (arith, room f v past law.2, length-append (arrivals f v past))
room f v (Acked k n ∷ past) law = room f v past law.2
room f v (Broke p ∷ past) law = room f v past law.2
room f v (Cleared p ∷ past) law = room f v past law.2
room f v (LetGo t ∷ past) law = room f v past law.2
room f v (Closed k ∷ past) law = room f v past law.2
