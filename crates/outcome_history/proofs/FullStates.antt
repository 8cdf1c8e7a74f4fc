-- Where the transactions of a history stand, as the outcome law has it: what each event makes of it.
-- for: laws::sessions_agree
use Rattle.std.proofs.Common.{◌≡◌, ◌≢◌, ℕ, ◌+◌, ◌-◌, ◌<◌, Bool, true, false, List, [], ◌∷◌, length, Option, Some, None, refl, ap, arith, zero, suc}
use Rattle.std.specs.Prelude.{if◌then◌else◌, slice_get, ◌==◌, ◌&&◌, nat_lt, not, option_map}
use Rattle.std.proofs.lemmas.Bool.Decides.{nat_tests}
use Rattle.flow_model.specs.declared.flow.Flow.{Flow}
use Rattle.tx_machine.specs.declared.values.Item.{Item}
use Rattle.tx_machine.specs.declared.values.Item.TheVariants as item
use Rattle.tx_machine.specs.Table.{TxState, next}
use Rattle.outcome_calls.specs.Trail.{is_committing as is_committed}
use Rattle.outcome_calls.specs.One.{Restored}
use Rattle.outcome_calls.specs.States.{begin, reopen}
use Rattle.outcome_calls.specs.Owning.{reply_of}
use Rattle.outcome_calls.specs.Core as core
use Rattle.outcome_calls.specs.Core.{later}
use Rattle.tx_machine.specs.declared.values.Phase.{Phase}
use Rattle.tx_machine.specs.declared.values.Phase.TheVariants.{Preparing, Aborting, Committing, Undoing}
use Rattle.tx_history.specs.declared.event.Event.{Event}
use Rattle.tx_history.specs.declared.event.Event.TheVariants as event
use Rattle.tx_history.specs.declared.journal.Row.{Row}
use Rattle.tx_history.specs.declared.journal.WaitingContext.{WaitingContext}
use Rattle.tx_history.specs.Keys.{look}
use Rattle.tx_history.specs.History.{Start, begun, is_committing, reopened, own_items, serves, state_of, next_id, takes, queue, arrivals}
use Rattle.tx_history.specs.Journal.{is_closed}
use Rattle.tx_history.specs.Views.{IsOrdered}
use Rattle.tx_history.proofs.OwnItems.{is_yes, is_other}
use Rattle.tx_history.proofs.GivenItems.{Gave}
use Rattle.tx_history.proofs.Sessions.{state_given}
use Rattle.tx_history.proofs.SoundJournals.{own_none}
use Rattle.tx_history.proofs.RisingKeys.{get_drop}
use Rattle.outcome_history.specs.Looked.{numbered}
use Rattle.outcome_history.specs.Sessions.{head_of, restored, journalled, taken_at, full_state}
use Rattle.outcome_history.proofs.LookedRows.{look_above}
use Rattle.outcome_history.proofs.OpeningClosings.{listed_told}

pub if_some : {A : Type 0} (b c : Bool) (o : Option A) (x : A) → (if b && c then o else None) ≡ Some x → b ≡ true
if_some true c o x h = refl
if_some false c o x h = absurd (cc)

-- before any event

same_commit : (p : Phase) → is_committed p ≡ is_committing p
same_commit Preparing = refl
same_commit Aborting = refl
same_commit Committing = refl
same_commit Undoing = refl

pub reopened_same : (f : Flow) (r : Row) → (reopen (numbered f r)).state ≡ reopened f r
reopened_same f r = rw (same_commit r.phase, listed_told f r) refl

first_journalled : (f : Flow) (o : Option Row) → core.reopened (option_map (numbered f) o) ≡ journalled f o false [] false
first_journalled f None = refl
first_journalled f (Some r) = ap (λ (st : TxState). Some (record { state = st; opened = Some (numbered f r); recovered = true; restored = false }))
    (reopened_same f r)

first_if : (f : Flow) (v : Start) (id : ℕ) → IsOrdered v.view → (b : Bool) → nat_lt id v.view.next_id ≡ b
    → core.reopened (option_map (numbered f) (look id v.view.rows))
    ≡ (if b then journalled f (look id v.view.rows) false [] false else taken_at (nat_lt id (v.view.next_id + 0)) (state_of f v [] id))
first_if f v id o true e = first_journalled f (look id v.view.rows)
first_if f v id o false e =
    let none : look id v.view.rows ≡ None = look_above v.view.rows v.view.next_id id o.rows e in
    let late : nat_lt id (v.view.next_id + 0) ≡ false = grind (arith, nat_tests) in
    rw (none, late) refl

pub full_first : (f : Flow) (v : Start) (id : ℕ) → IsOrdered v.view → core.reopened (option_map (numbered f) (look id v.view.rows)) ≡ full_state f v [] id
full_first f v id o = first_if f v id o (nat_lt id v.view.next_id) refl

-- an item

abbrev pub is_told : Item → Bool
is_told (item.Answer b c) = false
is_told (item.Choice t) = false
is_told (item.Told a) = true

later_journalled : (f : Flow) (o : Option Row) (c : Bool) (items : List Item) (x : Item) (back to : Bool) → to ≡ (not (is_told x) && back)
    → later f (reply_of x) (journalled f o c items back) ≡ journalled f o c (x ∷ items) to
later_journalled f None c items x back to e = refl
later_journalled f (Some r) true items x back to e = refl
later_journalled f (Some r) false items (item.Answer b c) back to e = rw e refl
later_journalled f (Some r) false items (item.Choice t) back to e = rw e refl
later_journalled f (Some r) false items (item.Told a) back to e = rw e refl

later_taken : (f : Flow) (st : TxState) (x : Item) → later f (reply_of x) (taken_at true st) ≡ taken_at true (next f st x)
later_taken f st (item.Answer b c) = refl
later_taken f st (item.Choice t) = refl
later_taken f st (item.Told a) = refl

given_if : (f : Flow) (v : Start) (past : List Event) (e : Event) (id : ℕ) (x : Item) → IsOrdered v.view → Gave f v past e id x → id < next_id v past →
    restored f v (e ∷ past) id ≡ (not (is_told x) && restored f v past id)
    → (b : Bool) → nat_lt id v.view.next_id ≡ b
    → later f (reply_of x) (if b then journalled f (look id v.view.rows) (is_closed past id) (own_items f v past id) (restored f v past id) else taken_at
    (nat_lt id (next_id v past)) (state_of f v past id))
    ≡ (if b then journalled f (look id v.view.rows) (is_closed (e ∷ past) id) (own_items f v (e ∷ past) id) (restored f v (e ∷ past) id) else taken_at
    (nat_lt id (next_id v (e ∷ past))) (state_of f v (e ∷ past) id))
given_if f v past e id x o g lt back true b = rw (g.closed id, g.given)
    (later_journalled f (look id v.view.rows) (is_closed past id) (own_items f v past id) x (restored f v past id) (restored f v (e ∷ past) id) back)
given_if f v past e id x o g lt back false b =
    let yes : nat_lt id (v.view.next_id + takes past) ≡ true = grind (arith, nat_tests) in
    rw (g.took, yes, state_given f v past e id x g) (later_taken f (state_of f v past id) x)

pub full_given : (f : Flow) (v : Start) (past : List Event) (e : Event) (id : ℕ) (x : Item) → IsOrdered v.view → Gave f v past e id x →
    id < next_id v past → restored f v (e ∷ past) id ≡ (not (is_told x) && restored f v past id)
    → later f (reply_of x) (full_state f v past id) ≡ full_state f v (e ∷ past) id
full_given f v past e id x o g lt back = given_if f v past e id x o g lt back (nat_lt id v.view.next_id) refl

pub full_other : (f : Flow) (v : Start) (past : List Event) (e : Event) (id j : ℕ) (x : Item) → Gave f v past e id x → j ≢ id →
    restored f v (e ∷ past) j ≡ restored f v past j → full_state f v past j ≡ full_state f v (e ∷ past) j
full_other f v past e id j x g d back = rw (g.closed j, g.others j d, back, g.took, g.arrived) refl

-- a restored context

later_restored : (f : Flow) (o : Option Row) (c : Bool) (items : List Item) (back : Bool) →
    later f Restored (journalled f o c items back) ≡ journalled f o c items true
later_restored f None c items back = refl
later_restored f (Some r) true items back = refl
later_restored f (Some r) false items back = refl

pub full_restored : (f : Flow) (v : Start) (past : List Event) (s : ℕ) (c : List ℕ) (id : ℕ) → serves f v past s ≡ Some id → nat_lt id v.view.next_id ≡ true
    → later f Restored (full_state f v past id) ≡ full_state f v (event.Recovered s c ∷ past) id
full_restored f v past s c id h lt = rw (lt, is_yes (serves f v past s) id h)
    (later_restored f (look id v.view.rows) (is_closed past id) (own_items f v past id) (restored f v past id))

pub restored_other : (f : Flow) (v : Start) (past : List Event) (s : ℕ) (c : List ℕ) (id j : ℕ) → serves f v past s ≡ Some id → j ≢ id →
    full_state f v past j ≡ full_state f v (event.Recovered s c ∷ past) j
restored_other f v past s c id j h d = rw (is_other (serves f v past s) id j h d) refl

-- a closing

close_journalled : (f : Flow) (o : Option Row) (items : List Item) (back : Bool) → None ≡ journalled f o true items back
close_journalled f None items back = refl
close_journalled f (Some r) items back = refl

pub full_closed : (f : Flow) (v : Start) (past : List Event) (id : ℕ) → nat_lt id v.view.next_id ≡ true → None ≡ full_state f v (event.Closed id ∷ past) id
full_closed f v past id lt =
    let yes : (id == id) ≡ true = grind (arith, nat_tests) in
    rw (lt, yes) (close_journalled f (look id v.view.rows) (own_items f v past id) (restored f v past id))

pub closed_other : (f : Flow) (v : Start) (past : List Event) (id j : ℕ) → (id == j) ≡ false
    → full_state f v past j ≡ full_state f v (event.Closed id ∷ past) j
closed_other f v past id j d = rw d refl

-- a take

begin_from : (f : Flow) (o : Option WaitingContext) → (o ≡ None → ⊥) → Some (begin f (head_of o)) ≡ taken_at true (begun f o)
begin_from f None some = absurd (some refl)
begin_from f (Some w) some = refl

get_some : {A : Type 0} (xs : List A) (n : ℕ) → n < length xs → slice_get xs n ≡ None → ⊥
get_some [] n lt h = omega arith
get_some (x ∷ xs) zero lt h = cc
get_some (x ∷ xs) (suc n) lt h = get_some xs n (omega arith) h

pub full_taken : (f : Flow) (v : Start) (past : List Event) (s : ℕ) → IsOrdered v.view → takes past < length (arrivals f v past)
    → Some (begin f (head_of (slice_get (queue f v past) 0))) ≡ full_state f v (event.Taken s ∷ past) (next_id v past)
full_taken f v past s o room =
    let n : ℕ = v.view.next_id + takes past in
    let old : nat_lt n v.view.next_id ≡ false = grind (arith, nat_tests) in
    let new : nat_lt n (v.view.next_id + (takes past + 1)) ≡ true = grind (arith, nat_tests) in
    let place : n - v.view.next_id ≡ takes past = omega arith in
    rw (old, new, own_none f v past n o (omega arith), place, get_drop (takes past) (arrivals f v past))
    (begin_from f (slice_get (arrivals f v past) (takes past)) (get_some (arrivals f v past) (takes past) room))

taken_other_if : (n m : ℕ) (st : TxState) → (nat_lt n m ≡ nat_lt n (m + 1)) → taken_at (nat_lt n m) st ≡ taken_at (nat_lt n (m + 1)) st
taken_other_if n m st e = ap (λ (b : Bool). taken_at b st) e

pub taken_other : (f : Flow) (v : Start) (past : List Event) (s j : ℕ) → (next_id v past == j) ≡ false →
    full_state f v past j ≡ full_state f v (event.Taken s ∷ past) j
taken_other f v past s j d =
    let same : nat_lt j (v.view.next_id + takes past) ≡ nat_lt j (v.view.next_id + (takes past + 1)) = grind (arith, nat_tests) in
    rw same refl
