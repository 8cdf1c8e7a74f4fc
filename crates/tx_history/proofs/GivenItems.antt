-- Each entry's change leads from the journal before it to the journal after it.
-- for: laws::changes_lead_on
use Rattle.std.proofs.Common.{◌≡◌, ◌≢◌, ℕ, ◌+◌, ◌-◌, ◌<◌, ◌≤◌, Bool, true, false, List, [], ◌∷◌, length, Option, Some, None, refl, sym, ◌∙◌, ap, subst, arith}
use Rattle.std.proofs.Common.{suc, zero}
use Rattle.std.specs.Prelude.{if◌then◌else◌, slice_get, ◌==◌, nat_lt, ◌||◌}
use Rattle.std.proofs.lemmas.Bool.Decides.{nat_tests}
use Rattle.flow_model.specs.declared.flow.Flow.{Flow}
use Rattle.tx_machine.specs.declared.values.Due.{Due}
use Rattle.tx_machine.specs.declared.values.Due.TheVariants.{Prepare, PrepareForAbort, Select, Commit, Abort, Shelve, Done}
use Rattle.tx_machine.specs.declared.values.Item.{Item}
use Rattle.tx_machine.specs.declared.values.Item.TheVariants.{Answer, Choice, Told as ToldOne}
use Rattle.tx_machine.specs.Table.{TxState}
use Rattle.tx_machine.specs.Due.{due_of}
use Rattle.tx_history.specs.declared.event.Event.{Event}
use Rattle.tx_history.specs.declared.event.Event.TheVariants.{Offered, Taken, Answered, Chose, Told, Recovered, Released, Acked, Broke, Cleared, LetGo, Closed}
use Rattle.tx_history.specs.declared.journal.WaitingContext.{WaitingContext}
use Rattle.tx_history.specs.declared.journal.Row.{Row}
use Rattle.tx_history.specs.declared.journal.JournalView.{JournalView}
use Rattle.tx_history.specs.Keys.{Rising, look, gather, put_at, put_new}
use Rattle.tx_machine.specs.Bounds.{after_newest}
use Rattle.tx_history.specs.History.{Start, reopened, is_ended, takes, ids, is_id, serves, own_items, is_fresh, is_released, arrivals, shelved, shelved_in}
use Rattle.tx_history.specs.History.{shelved_at, shelf, state_of, advice_place, put_advice}
use Rattle.tx_history.specs.Journal.{IsLawful, to_close, row, row_at, is_closed, journal, applied, Leads, touched, shelved_change}
use Rattle.tx_history.specs.Views.{IsOrdered}
use Rattle.tx_history.proofs.RisingKeys.{put_gather, put_none, look_other}
use Rattle.tx_history.proofs.OwnItems.{FoundRow, serves_below, serves_old, is_yes, is_other, holds_serves, old_outcome, ended_stays}

-- an item given for a transaction

-- what an event that gives x for id changes, and what it doesn't
pub record Gave (f : Flow) (v : Start) (past : List Event) (e : Event) (id : ℕ) (x : Item) : Type 0 where
  pub arrived : arrivals f v (e ∷ past) ≡ arrivals f v past
  pub took : takes (e ∷ past) ≡ takes past
  pub given : own_items f v (e ∷ past) id ≡ x ∷ own_items f v past id
  pub others : (j : ℕ) → j ≢ id → own_items f v (e ∷ past) j ≡ own_items f v past j
  pub closed : (j : ℕ) → is_closed (e ∷ past) j ≡ is_closed past j
  pub kept : is_released (e ∷ past) ≡ is_released past
  pub fresh : is_fresh f v (e ∷ past) id ≡ true
  pub stale : (j : ℕ) → j ≢ id → is_fresh f v (e ∷ past) j ≡ is_fresh f v past j

fresh_same : (o : Option ℕ) (id : ℕ) (b : Bool) → o ≡ Some id → (is_id o id || b) ≡ true
fresh_same o id b e = rw (is_yes o id e) refl

pub gave_answered : (f : Flow) (v : Start) (past : List Event) (s b : ℕ) (c : List ℕ) (id : ℕ) → serves f v past s ≡ Some id →
    Gave f v past (Answered s b c) id (Answer b c)
gave_answered f v past s b c id h = record {
  arrived = refl;
  took = refl;
  given = rw (is_yes (serves f v past s) id h) refl;
  others = λ j d. rw (is_other (serves f v past s) id j h d) refl;
  closed = λ j. refl;
  kept = refl;
  fresh = fresh_same (serves f v past s) id (is_fresh f v past id) h;
  stale = λ j d. rw (is_other (serves f v past s) id j h d) refl;
}

pub gave_chose : (f : Flow) (v : Start) (past : List Event) (s : ℕ) (t : List ℕ) (id : ℕ) → serves f v past s ≡ Some id →
    Gave f v past (Chose s t) id (Choice t)
gave_chose f v past s t id h = record {
  arrived = refl;
  took = refl;
  given = rw (is_yes (serves f v past s) id h) refl;
  others = λ j d. rw (is_other (serves f v past s) id j h d) refl;
  closed = λ j. refl;
  kept = refl;
  fresh = fresh_same (serves f v past s) id (is_fresh f v past id) h;
  stale = λ j d. rw (is_other (serves f v past s) id j h d) refl;
}

pub gave_told : (f : Flow) (v : Start) (past : List Event) (s : ℕ) (a : Option (List ℕ)) (id : ℕ) → serves f v past s ≡ Some id →
    Gave f v past (Told s a) id (ToldOne a)
gave_told f v past s a id h = record {
  arrived = refl;
  took = refl;
  given = rw (is_yes (serves f v past s) id h) refl;
  others = λ j d. rw (is_other (serves f v past s) id j h d) refl;
  closed = λ j. refl;
  kept = refl;
  fresh = fresh_same (serves f v past s) id (is_fresh f v past id) h;
  stale = λ j d. rw (is_other (serves f v past s) id j h d) refl;
}

-- the others stay in the states that they were in
pub state_other : (f : Flow) (v : Start) (past : List Event) (e : Event) (id : ℕ) (x : Item) (j : ℕ) → Gave f v past e id x → j ≢ id →
    state_of f v (e ∷ past) j ≡ state_of f v past j
state_other f v past e id x j g d = rw (g.arrived, g.others j d) refl

row_other : (f : Flow) (v : Start) (past : List Event) (e : Event) (id : ℕ) (x : Item) (j : ℕ) → Gave f v past e id x → j ≢ id →
    row_at f v (e ∷ past) j ≡ row_at f v past j
row_other f v past e id x j g d = rw (g.arrived, g.closed j, g.others j d) refl

-- a closing entry is of a transaction with nobody to notify
pub record Closing (f : Flow) (rows : List (ℕ × Row)) (id : ℕ) : Type 0 where
  pub row : Row
  pub there : look id rows ≡ Some row
  pub over : is_ended f (reopened f row) ≡ true

close_later : (f : Flow) (r : ℕ × Row) (rows : List (ℕ × Row)) (m id : ℕ) → Rising (r.0 + 1) m rows → Closing f rows id → Closing f (r ∷ rows) id
close_later f r rows m id rise w = record { row = w.row; there = look_other r rows m id w.row rise w.there; over = w.over }

close_if : (f : Flow) (r : ℕ × Row) (rows : List (ℕ × Row)) (m k id : ℕ) → Rising (r.0 + 1) m rows →
    ((i : ℕ) → slice_get (to_close f rows) i ≡ Some id → Closing f rows id)
    → (b : Bool) → is_ended f (reopened f r.1) ≡ b → slice_get (if b then r.0 ∷ to_close f rows else to_close f rows) k ≡ Some id → Closing f (r ∷ rows) id
close_if f r rows m zero id rise ih true e h =
    let same : r.0 ≡ id = grind (arith) in
    let yes : (r.0 == r.0) ≡ true = grind (arith, nat_tests) in
    subst (λ (i : ℕ). Closing f (r ∷ rows) i) same (record { row = r.1; there = rw yes refl; over = e })
close_if f r rows m (suc k) id rise ih true e h = close_later f r rows m id rise (ih k h)
close_if f r rows m k id rise ih false e h = close_later f r rows m id rise (ih k h)

pub closing : (f : Flow) (rows : List (ℕ × Row)) (n m k id : ℕ) → Rising n m rows → slice_get (to_close f rows) k ≡ Some id → Closing f rows id
closing f [] n m k id rise h = absurd (cc)
closing f (r ∷ rows) n m k id rise h = close_if f r rows m k id rise.2 (λ i. closing f rows (r.0 + 1) m i id rise.2) (is_ended f (reopened f r.1)) refl h

-- a closed transaction had nobody to notify
closed_if : (f : Flow) (v : Start) (past : List Event) (k id : ℕ) → IsOrdered v.view → slice_get (to_close f v.view.rows) (length past) ≡ Some k →
    (is_closed past id ≡ true → Closing f v.view.rows id)
    → (b : Bool) → (k == id) ≡ b → (b || is_closed past id) ≡ true → Closing f v.view.rows id
closed_if f v past k id o at ih true e h =
    let same : k ≡ id = grind (arith, nat_tests) in
    closing f v.view.rows 1 v.view.next_id (length past) id o.rows (at ∙ ap Some same)
closed_if f v past k id o at ih false e h = ih h

pub closed_over : (f : Flow) (v : Start) (past : List Event) (id : ℕ) → IsOrdered v.view → IsLawful f v past → is_closed past id ≡ true →
    Closing f v.view.rows id
closed_over f v [] id o law h = absurd (cc)
closed_over f v (Offered x ∷ past) id o law h = closed_over f v past id o law.2 h
closed_over f v (Taken t ∷ past) id o law h = closed_over f v past id o law.2 h
closed_over f v (Answered t b x ∷ past) id o law h = closed_over f v past id o law.2 h
closed_over f v (Chose t x ∷ past) id o law h = closed_over f v past id o law.2 h
closed_over f v (Told t x ∷ past) id o law h = closed_over f v past id o law.2 h
closed_over f v (Recovered t x ∷ past) id o law h = closed_over f v past id o law.2 h
closed_over f v (Released ∷ past) id o law h = closed_over f v past id o law.2 h
closed_over f v (Acked k n ∷ past) id o law h = closed_over f v past id o law.2 h
closed_over f v (Broke p ∷ past) id o law h = closed_over f v past id o law.2 h
closed_over f v (Cleared p ∷ past) id o law h = closed_over f v past id o law.2 h
closed_over f v (LetGo t ∷ past) id o law h = closed_over f v past id o law.2 h
closed_over f v (Closed k ∷ past) id o law h = closed_if f v past k id o law.0 (closed_over f v past id o law.2) (k == id) refl h

-- a journalled transaction that is served was not closed
unclosed_if : (f : Flow) (v : Start) (past : List Event) (id : ℕ) → IsOrdered v.view → IsLawful f v past → FoundRow f v.view.rows (own_items f v past) id →
    (b : Bool) → is_closed past id ≡ b → b ≡ false
unclosed_if f v past id o law w false e = refl
unclosed_if f v past id o law w true e =
    let c = closed_over f v past id o law e in
    let same : c.row ≡ w.row = let a = c.there in let b = w.there in grind (arith) in
    let over : is_ended f (after_newest f (reopened f w.row) (own_items f v past id)) ≡ true =
    ended_stays f w.row (own_items f v past id) (subst (λ (r : Row). is_ended f (reopened f r) ≡ true) same c.over) in
    absurd (let u = w.unfinished in cc)

-- the row of the one that the item was given for
row_given_if : (f : Flow) (v : Start) (past : List Event) (e : Event) (id s : ℕ) (x : Item) → IsOrdered v.view → IsLawful f v past → Gave f v past e id x →
    serves f v past s ≡ Some id
    → (b : Bool) → nat_lt id v.view.next_id ≡ b → row_at f v (e ∷ past) id ≡ row f (state_of f v (e ∷ past) id)
row_given_if f v past e id s x o law g h false lt = rw lt refl
row_given_if f v past e id s x o law g h true lt =
    let below : id < v.view.next_id = grind (arith, nat_tests) in
    let w = serves_old f v past s id o h below in
    let unclosed : is_closed (e ∷ past) id ≡ false = g.closed id ∙ unclosed_if f v past id o law w (is_closed past id) refl in
    rw (lt, unclosed, w.there, g.given) refl

row_given : (f : Flow) (v : Start) (past : List Event) (e : Event) (id s : ℕ) (x : Item) → IsOrdered v.view → IsLawful f v past → Gave f v past e id x →
    serves f v past s ≡ Some id
    → row_at f v (e ∷ past) id ≡ row f (state_of f v (e ∷ past) id)
row_given f v past e id s x o law g h = row_given_if f v past e id s x o law g h (nat_lt id v.view.next_id) refl

pub rows_gave : (f : Flow) (v : Start) (past : List Event) (e : Event) (id s : ℕ) (x : Item) → IsOrdered v.view → IsLawful f v past → Gave f v past e id x →
    serves f v past s ≡ Some id
    → put_at id (row f (state_of f v (e ∷ past) id)) (journal f v past).rows ≡ (journal f v (e ∷ past)).rows
rows_gave f v past e id s x o law g h =
    let within = serves_below f v past s id o h in
    let lo = within.0 in
    let hi : id < 1 + ids v past = let a = within.1 in omega arith in
    let same_ids : ids v (e ∷ past) ≡ ids v past = ap (λ (n : ℕ). v.view.next_id + n - 1) g.took in
    ap (λ (r : Option Row). put_at id r (journal f v past).rows) (sym (row_given f v past e id s x o law g h))
    ∙ (put_gather (row_at f v past) (row_at f v (e ∷ past)) 1 (ids v past) id lo hi (λ j a b d. sym (row_other f v past e id x j g d))
    ∙ ap (λ (k : ℕ). gather (row_at f v (e ∷ past)) 1 k) (sym same_ids))

-- the shelf
not_shelved_in : (d : Due) (b : Bool) (st : TxState) → (d ≡ Shelve → ⊥) → shelved_in d b st ≡ None
not_shelved_in (Prepare s) b st h = refl
not_shelved_in (PrepareForAbort s) b st h = refl
not_shelved_in (Select s) b st h = refl
not_shelved_in (Commit p) b st h = refl
not_shelved_in (Abort p) b st h = refl
not_shelved_in Shelve b st h = absurd (h refl)
not_shelved_in Done b st h = refl

pub stale_shelved : (d : Due) (st : TxState) → shelved_in d false st ≡ None
stale_shelved (Prepare s) st = refl
stale_shelved (PrepareForAbort s) st = refl
stale_shelved (Select s) st = refl
stale_shelved (Commit p) st = refl
stale_shelved (Abort p) st = refl
stale_shelved Shelve st = refl
stale_shelved Done st = refl

not_over : (f : Flow) (st : TxState) → is_ended f st ≡ false → due_of f st ≡ Shelve → ⊥
not_over f st h e = let over : is_ended f st ≡ true = rw e refl in cc

none_for : (b : Bool) (o : Option WaitingContext) → o ≡ None → (if b then None else o) ≡ None
none_for true o h = refl
none_for false o h = h

else_none : (b : Bool) (x y : Option WaitingContext) → b ≡ false → y ≡ None → (if b then x else y) ≡ None
else_none true x y h e = absurd (cc)
else_none false x y h e = e

look_none : {A : Type 0} (id : ℕ) (xs : List (ℕ × A)) (o : Option A) → look id xs ≡ o → ((x : A) → look id xs ≡ Some x → ⊥) → look id xs ≡ None
look_none id xs None e h = e
look_none id xs (Some x) e h = absurd (h x e)

pub record Unshelved (f : Flow) (v : Start) (past : List Event) (e : Event) (id : ℕ) : Type 0 where
  pub before : shelved_at f v (arrivals f v past) past id ≡ None
  pub after : shelved f (state_of f v (e ∷ past) id) true ≡ shelved_at f v (arrivals f v (e ∷ past)) (e ∷ past) id

pub unshelved_if : (f : Flow) (v : Start) (past : List Event) (e : Event) (id s : ℕ) (x : Item) → IsOrdered v.view → Gave f v past e id x →
    serves f v past s ≡ Some id → is_ended f (state_of f v past id) ≡ false
    → (b : Bool) → nat_lt id v.view.next_id ≡ b → Unshelved f v past e id
unshelved_if f v past e id s x o g h u false lt =
    let no : shelved f (state_of f v past id) (is_fresh f v past id) ≡ None = not_shelved_in (due_of f (state_of f v past id)) (is_fresh f v past id)
    (state_of f v past id) (not_over f (state_of f v past id) u) in
    record {
      before = else_none (nat_lt id v.view.next_id) (if is_released past then None else look id v.view.shelf)
          (shelved f (state_of f v past id) (is_fresh f v past id)) lt no;
      after = rw (lt, g.fresh) refl;
    }
unshelved_if f v past e id s x o g h u true lt =
    let below : id < v.view.next_id = grind (arith, nat_tests) in
    let w = serves_old f v past s id o h below in
    let none : look id v.view.shelf ≡ None = look_none id v.view.shelf (look id v.view.shelf) refl (λ y i. o.apart id w.row y w.there i) in
    let out = old_outcome f w.row (own_items f v (e ∷ past) id) in
    let never : shelved f (after_newest f (reopened f w.row) (own_items f v (e ∷ past) id)) true ≡ None =
    not_shelved_in (due_of f (after_newest f (reopened f w.row) (own_items f v (e ∷ past) id))) true
    (after_newest f (reopened f w.row) (own_items f v (e ∷ past) id)) out.unshelved in
    record {
      before = rw lt (none_for (is_released past) (look id v.view.shelf) none);
      after = rw (lt, w.there) (never ∙ sym (none_for (is_released (e ∷ past)) (look id v.view.shelf) none));
    }

shelved_other : (f : Flow) (v : Start) (past : List Event) (e : Event) (id : ℕ) (x : Item) (j : ℕ) → Gave f v past e id x → j ≢ id
    → shelved_at f v (arrivals f v (e ∷ past)) (e ∷ past) j ≡ shelved_at f v (arrivals f v past) past j
shelved_other f v past e id x j g d = rw (g.arrived, g.others j d, g.stale j d, g.kept) refl

put_new_gather : (h g : ℕ → Option WaitingContext) (n k id : ℕ) (o : Option WaitingContext) → n ≤ id → id < n + k → h id ≡ None → o ≡ g id →
    ((j : ℕ) → n ≤ j → j < n + k → j ≢ id → h j ≡ g j)
    → put_new (shelved_change id o) (gather h n k) ≡ gather g n k
put_new_gather h g n k id None le lt none is same = put_none h g n k id le lt none same None is refl
put_new_gather h g n k id (Some w) le lt none is same = subst (λ (o : Option WaitingContext). put_at id o (gather h n k) ≡ gather g n k) (sym is)
    (put_gather h g n k id le lt same)

pub shelf_gave : (f : Flow) (v : Start) (past : List Event) (e : Event) (id s : ℕ) (x : Item) → IsOrdered v.view → Gave f v past e id x →
    serves f v past s ≡ Some id → is_ended f (state_of f v past id) ≡ false
    → put_new (shelved_change id (shelved f (state_of f v (e ∷ past) id) true)) (shelf f v past) ≡ shelf f v (e ∷ past)
shelf_gave f v past e id s x o g h u =
    let within = serves_below f v past s id o h in
    let lo = within.0 in
    let hi : id < 1 + ids v past = let a = within.1 in omega arith in
    let same_ids : ids v (e ∷ past) ≡ ids v past = ap (λ (n : ℕ). v.view.next_id + n - 1) g.took in
    let w = unshelved_if f v past e id s x o g h u (nat_lt id v.view.next_id) refl in
    put_new_gather (shelved_at f v (arrivals f v past) past) (shelved_at f v (arrivals f v (e ∷ past)) (e ∷ past)) 1 (ids v past) id
    (shelved f (state_of f v (e ∷ past) id) true) lo hi w.before w.after
    (λ j a b d. sym (shelved_other f v past e id x j g d))
    ∙ ap (λ (k : ℕ). gather (shelved_at f v (arrivals f v (e ∷ past)) (e ∷ past)) 1 k) (sym same_ids)

pub same_journal : (a b : JournalView) → a.next_id ≡ b.next_id → a.rows ≡ b.rows → a.shelf ≡ b.shelf → a.advices ≡ b.advices → a ≡ b
same_journal a b n r s d =
    let e : record { next_id = a.next_id; rows = a.rows; shelf = a.shelf; advices = a.advices } ≡ record {
      next_id = b.next_id;
      rows = b.rows;
      shelf =
          b.shelf;
      advices = b.advices;
    } = rw (n, r, s, d) refl in e

pub leads_answered : (f : Flow) (v : Start) (past : List Event) (s b : ℕ) (c : List ℕ) → IsOrdered v.view → IsLawful f v (Answered s b c ∷ past) →
    Leads f v past (Answered s b c)
leads_answered f v past s b c o law =
    let id : ℕ = law.0.0 in
    let session_state = holds_serves f v past s id law.0.1 in
    let g = gave_answered f v past s b c id session_state.0 in
    ap (λ (o : Option ℕ). applied (touched f v (Answered s b c ∷ past) None o) (journal f v past)) session_state.0
    ∙ same_journal (applied (touched f v (Answered s b c ∷ past) None (Some id)) (journal f v past)) (journal f v (Answered s b c ∷ past)) refl
    (rows_gave f v past (Answered s b c) id s (Answer b c) o law.2 g session_state.0)
    (shelf_gave f v past (Answered s b c) id s (Answer b c) o g session_state.0 session_state.1)
    refl

pub leads_chose : (f : Flow) (v : Start) (past : List Event) (s : ℕ) (t : List ℕ) → IsOrdered v.view → IsLawful f v (Chose s t ∷ past) →
    Leads f v past (Chose s t)
leads_chose f v past s t o law =
    let id : ℕ = law.0.0 in
    let session_state = holds_serves f v past s id law.0.1 in
    let g = gave_chose f v past s t id session_state.0 in
    ap (λ (o : Option ℕ). applied (touched f v (Chose s t ∷ past) None o) (journal f v past)) session_state.0
    ∙ same_journal (applied (touched f v (Chose s t ∷ past) None (Some id)) (journal f v past)) (journal f v (Chose s t ∷ past)) refl
    (rows_gave f v past (Chose s t) id s (Choice t) o law.2 g session_state.0)
    (shelf_gave f v past (Chose s t) id s (Choice t) o g session_state.0 session_state.1)
    refl

pub leads_told : (f : Flow) (v : Start) (past : List Event) (s : ℕ) (a : Option (List ℕ)) → IsOrdered v.view → IsLawful f v (Told s a ∷ past) →
    Leads f v past (Told s a)
leads_told f v past s a o law =
    let id : ℕ = law.0.0 in
    let session_state = holds_serves f v past s id law.0.1 in
    let g = gave_told f v past s a id session_state.0 in
    ap (λ (o : Option ℕ). applied (touched f v (Told s a ∷ past) (put_advice (advice_place f v past s) a) o) (journal f v past)) session_state.0
    ∙ same_journal (applied (touched f v (Told s a ∷ past) (put_advice (advice_place f v past s) a) (Some id)) (journal f v past))
    (journal f v (Told s a ∷ past)) refl
    (rows_gave f v past (Told s a) id s (ToldOne a) o law.2 g session_state.0)
    (shelf_gave f v past (Told s a) id s (ToldOne a) o g session_state.0 session_state.1)
    refl
