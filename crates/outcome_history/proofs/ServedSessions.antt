-- The transactions that sessions serve, in the outcome law's words and in those of histories.
-- for: laws::sessions_agree
use Rattle.std.proofs.Common.{◌≡◌, ℕ, ◌+◌, ◌-◌, ◌<◌, ◌≤◌, Bool, true, false, List, [], ◌∷◌, Option, Some, None, refl, sym, ◌∙◌, ap, subst, arith, zero}
use Rattle.std.proofs.Common.{suc}
use Rattle.std.specs.Prelude.{if◌then◌else◌, ◌==◌, nat_lt, not}
use Rattle.std.proofs.lemmas.Bool.Decides.{nat_tests}
use Rattle.flow_model.specs.declared.flow.Flow.{Flow}
use Rattle.tx_machine.specs.declared.values.Item.{Item}
use Rattle.tx_machine.specs.declared.values.Due.{Due}
use Rattle.tx_machine.specs.declared.values.Due.TheVariants as due
use Rattle.tx_machine.specs.Due.{due_of}
use Rattle.tx_machine.specs.Bounds.{after_newest}
use Rattle.outcome_calls.specs.One.{FullReply, Answer, Chosen, Advice, Restored}
use Rattle.outcome_calls.specs.States.{FullState, seen, outcome_due, restores}
use Rattle.outcome_calls.specs.Core as core
use Rattle.outcome_calls.specs.Core.{IdEvent, at}
use Rattle.outcome_calls.specs.Plant as plant
use Rattle.outcome_calls.specs.Plant.{is_idle, unfinished, seek, serves_in, given_to, taken_count}
use Rattle.tx_history.specs.declared.event.Event.{Event}
use Rattle.tx_history.specs.declared.event.Event.TheVariants.{Offered, Taken, Answered, Chose, Told, Recovered, Released, Acked, Broke, Cleared, LetGo, Closed}
use Rattle.tx_history.specs.declared.journal.Row.{Row}
use Rattle.tx_history.specs.Keys.{look, Rising}
use Rattle.tx_history.specs.History.{Start, reopened, is_over, is_ended, first_unfinished, or_taken, own_items, recovering, serves, next_id, takes, taken}
use Rattle.tx_history.specs.Journal.{is_closed, IsLawful}
use Rattle.tx_history.specs.Views.{IsOrdered}
use Rattle.tx_history.proofs.RisingKeys.{look_below}
use Rattle.tx_history.proofs.OwnItems.{ended_stays}
use Rattle.tx_history.proofs.GivenItems.{closed_over}
use Rattle.tx_history.proofs.Sessions.{recovered_first}
use Rattle.tx_history.proofs.RecoveredSessions.{none_taken}
use Rattle.outcome_history.specs.Looked.{numbered, id_view}
use Rattle.outcome_history.specs.Sessions.{journalled, full_state, session_events, id_events, opened_since, restored}

-- takes

pub count_same : (f : Flow) (v : Start) (past : List Event) → taken_count (session_events f v past) ≡ takes past
count_same f v [] = refl
count_same f v (Offered x ∷ past) = count_same f v past
count_same f v (Taken t ∷ past) = ap (λ (n : ℕ). n + 1) (count_same f v past)
count_same f v (Answered t b x ∷ past) = count_same f v past
count_same f v (Chose t x ∷ past) = count_same f v past
count_same f v (Told t x ∷ past) = count_same f v past
count_same f v (Recovered t x ∷ past) = count_same f v past
count_same f v (Released ∷ past) = count_same f v past
count_same f v (Acked k n ∷ past) = count_same f v past
count_same f v (Broke p ∷ past) = count_same f v past
count_same f v (Cleared p ∷ past) = count_same f v past
count_same f v (LetGo t ∷ past) = count_same f v past
count_same f v (Closed k ∷ past) = count_same f v past

pub taken_same : (f : Flow) (v : Start) (past : List Event) (s : ℕ) → plant.taken (id_view f v.view) (session_events f v past) s ≡ taken v past s
taken_same f v [] s = refl
taken_same f v (Offered x ∷ past) s = taken_same f v past s
taken_same f v (Taken t ∷ past) s = rw (count_same f v past, taken_same f v past s) refl
taken_same f v (Answered t b x ∷ past) s = taken_same f v past s
taken_same f v (Chose t x ∷ past) s = taken_same f v past s
taken_same f v (Told t x ∷ past) s = taken_same f v past s
taken_same f v (Recovered t x ∷ past) s = taken_same f v past s
taken_same f v (Released ∷ past) s = taken_same f v past s
taken_same f v (Acked k n ∷ past) s = taken_same f v past s
taken_same f v (Broke p ∷ past) s = taken_same f v past s
taken_same f v (Cleared p ∷ past) s = taken_same f v past s
taken_same f v (LetGo t ∷ past) s = taken_same f v past s
taken_same f v (Closed k ∷ past) s = taken_same f v past s

takes_given : (o : Option ℕ) (x : FullReply) (l : List IdEvent) (n : ℕ) → core.takes l ≡ n → core.takes (given_to o x ∷ l) ≡ n
takes_given None x l n e = e
takes_given (Some id) x l n e = e

pub takes_same : (f : Flow) (v : Start) (past : List Event) → core.takes (id_events f v past) ≡ takes past
takes_same f v [] = refl
takes_same f v (Offered x ∷ past) = takes_same f v past
takes_same f v (Taken t ∷ past) = ap (λ (n : ℕ). n + 1) (takes_same f v past)
takes_same f v (Answered t b x ∷ past) = takes_given (plant.serves f (id_view f v.view) (session_events f v past) t) (Answer b x) (id_events f v past)
    (takes past) (takes_same f v past)
takes_same f v (Chose t x ∷ past) = takes_given (plant.serves f (id_view f v.view) (session_events f v past) t) (Chosen x) (id_events f v past) (takes past)
    (takes_same f v past)
takes_same f v (Told t x ∷ past) = takes_given (plant.serves f (id_view f v.view) (session_events f v past) t) (Advice x) (id_events f v past) (takes past)
    (takes_same f v past)
takes_same f v (Recovered t x ∷ past) = takes_given (plant.serves f (id_view f v.view) (session_events f v past) t) Restored (id_events f v past)
    (takes past) (takes_same f v past)
takes_same f v (Released ∷ past) = takes_same f v past
takes_same f v (Acked k n ∷ past) = takes_same f v past
takes_same f v (Broke p ∷ past) = takes_same f v past
takes_same f v (Cleared p ∷ past) = takes_same f v past
takes_same f v (LetGo t ∷ past) = takes_same f v past
takes_same f v (Closed k ∷ past) = takes_same f v past

pub next_same : (f : Flow) (v : Start) (past : List Event) → core.next_id (id_view f v.view) (id_events f v past) ≡ next_id v past
next_same f v past = ap (λ (n : ℕ). v.view.next_id + n) (takes_same f v past)

-- the first that passes a test

seek_skip : (test : ℕ → Bool) (n a b : ℕ) → ((j : ℕ) → n ≤ j → j < n + a → test j ≡ false) → seek test n (a + b) ≡ seek test (n + a) b
seek_skip test n zero b h =
    let z : n + 0 ≡ n = omega arith in
    let y : 0 + b ≡ b = omega arith in
    rw (z, y) refl
seek_skip test n (suc a) b h =
    let failed : test n ≡ false = h n (omega arith) (omega arith) in
    let place : n + 1 + a ≡ n + suc a = omega arith in
    let more : suc a + b ≡ suc (a + b) = omega arith in
    ap (seek test n) more
    ∙ (ap (λ (c : Bool). if c then Some n else seek test (n + 1) (a + b)) failed
    ∙ subst (λ (i : ℕ). seek test (n + 1) (a + b) ≡ seek test i b) place (seek_skip test (n + 1) a b (λ j lo hi. h j (omega arith) (omega arith))))

seek_never : (test : ℕ → Bool) (n k : ℕ) → ((j : ℕ) → n ≤ j → j < n + k → test j ≡ false) → seek test n k ≡ None
seek_never test n zero h = refl
seek_never test n (suc k) h =
    let failed : test n ≡ false = h n (omega arith) (omega arith) in
    rw failed (seek_never test (n + 1) k (λ j lo hi. h j (omega arith) (omega arith)))

-- whether a journalled transaction has somebody left to notify
abbrev pub open_at : Flow → Option Row → List Item → Bool
open_at f None items = false
open_at f (Some r) items = not (is_ended f (after_newest f (reopened f r) items))

seek_or : (b : Bool) (id : ℕ) (o : Option ℕ) → (if not b then Some id else o) ≡ (if b then o else Some id)
seek_or true id o = refl
seek_or false id o = refl

pub seek_first : (f : Flow) (rows : List (ℕ × Row)) (items : ℕ → List Item) (test : ℕ → Bool) (n k : ℕ) → Rising n (n + k) rows →
    ((j : ℕ) → n ≤ j → j < n + k → test j ≡ open_at f (look j rows) (items j))
    → seek test n k ≡ first_unfinished f rows items
seek_first f [] items test n k rise h = seek_never test n k h
seek_first f (x ∷ rows) items test n k rise h =
    let lo : n ≤ x.0 = rise.0 in
    let hi : x.0 < n + k = rise.1 in
    let a : ℕ = x.0 - n in
    let b : ℕ = k - a - 1 in
    let split : k ≡ a + suc b = omega arith in
    let place : n + a ≡ x.0 = omega arith in
    let end : n + k ≡ x.0 + 1 + b = omega arith in
    let here : (x.0 == x.0) ≡ true = grind (arith, nat_tests) in
    let tested : test x.0 ≡ not (is_ended f (after_newest f (reopened f x.1) (items x.0))) =
    h x.0 lo hi ∙ ap (λ (c : Bool). open_at f (if c then Some x.1 else look x.0 rows) (items x.0)) here in
    let below : (j : ℕ) → n ≤ j → j < n + a → test j ≡ false = λ j c d.
    (let other : (x.0 == j) ≡ false = grind (arith, nat_tests) in
    let none : look j (x ∷ rows) ≡ None = rw other (look_below rows (x.0 + 1) (n + k) j rise.2 (omega arith)) in
    h j c (omega arith) ∙ ap (λ (o : Option Row). open_at f o (items j)) none) in
    let later : seek test (x.0 + 1) b ≡ first_unfinished f rows items =
    seek_first f rows items test (x.0 + 1) b (subst (λ (m : ℕ). Rising (x.0 + 1) m rows) end rise.2)
    (λ j c d. let other : (x.0 == j) ≡ false = grind (arith, nat_tests) in
    let same : look j (x ∷ rows) ≡ look j rows = rw other refl in
    h j (omega arith) (omega arith) ∙ ap (λ (o : Option Row). open_at f o (items j)) same) in
    ap (λ (i : ℕ). seek test n i) split
    ∙ (seek_skip test n a (suc b) below
    ∙ (ap (λ (i : ℕ). seek test i (suc b)) place
    ∙ (ap (λ (o : Option ℕ). if test x.0 then Some x.0 else o) later
    ∙ (ap (λ (c : Bool). if c then Some x.0 else first_unfinished f rows items) tested
    ∙ seek_or (is_ended f (after_newest f (reopened f x.1) (items x.0))) x.0 (first_unfinished f rows items)))))

-- whether a transaction is unfinished

idle_outcome : (b : Bool) (p : ℕ) → is_idle (outcome_due b p) ≡ false
idle_outcome true p = refl
idle_outcome false p = refl

pub idle_seen : (f : Flow) (st : FullState) (d : Due) → is_idle (seen f st d) ≡ is_over d
idle_seen f st (due.Prepare s) = refl
idle_seen f st (due.PrepareForAbort s) = refl
idle_seen f st (due.Select s) = refl
idle_seen f st (due.Commit p) = idle_outcome (restores f st p) p
idle_seen f st (due.Abort p) = idle_outcome (restores f st p) p
idle_seen f st due.Shelve = refl
idle_seen f st due.Done = refl

unfinished_journalled : (f : Flow) (o : Option Row) (c : Bool) (items : List Item) (back : Bool) → (c ≡ true → open_at f o items ≡ false) →
    unfinished f (journalled f o c items back) ≡ open_at f o items
unfinished_journalled f None c items back h = refl
unfinished_journalled f (Some r) true items back h = sym (h refl)
unfinished_journalled f (Some r) false items back h = ap not
    (idle_seen f (record { state = after_newest f (reopened f r) items; opened = opened_since (numbered f r) items; recovered = true; restored = back })
    (due_of f (after_newest f (reopened f r) items)))

-- a closed transaction had nobody to notify
pub closed_idle : (f : Flow) (v : Start) (past : List Event) (id : ℕ) → IsOrdered v.view → IsLawful f v past → is_closed past id ≡ true →
    open_at f (look id v.view.rows) (own_items f v past id) ≡ false
closed_idle f v past id o law h =
    let w = closed_over f v past id o law h in
    ap (λ (r : Option Row). open_at f r (own_items f v past id)) w.there ∙ ap not (ended_stays f w.row (own_items f v past id) w.over)

-- the transactions that sessions serve, where transactions stand alike

abbrev pub States : Flow → Start → List Event → Type 0
States f v past = (id : ℕ) → at f (id_view f v.view) (id_events f v past) id ≡ full_state f v past id

tested_below : (f : Flow) (v : Start) (past : List Event) (id : ℕ) → IsOrdered v.view → IsLawful f v past → nat_lt id v.view.next_id ≡ true →
    unfinished f (full_state f v past id) ≡ open_at f (look id v.view.rows) (own_items f v past id)
tested_below f v past id o law lt = rw lt (unfinished_journalled f (look id v.view.rows) (is_closed past id) (own_items f v past id) (restored f v past id)
    (closed_idle f v past id o law))

rising_lower : (m k : ℕ) (rows : List (ℕ × Row)) → m ≡ k → Rising 1 m rows → Rising 0 k rows
rising_lower m k [] e rise = omega arith
rising_lower m k (x ∷ rows) e rise = (omega arith, let a = rise.1 in omega arith, subst (λ (i : ℕ). Rising (x.0 + 1) i rows) e rise.2)

pub recovering_same : (f : Flow) (v : Start) (past : List Event) → IsOrdered v.view → IsLawful f v past → States f v past
    → plant.recovering f (id_view f v.view) (id_events f v past) ≡ recovering f v past
recovering_same f v past o law states =
    seek_first f v.view.rows (own_items f v past) (λ (id : ℕ). unfinished f (at f (id_view f v.view) (id_events f v past) id)) 0 v.view.next_id
    (rising_lower v.view.next_id (0 + v.view.next_id) v.view.rows (omega arith) o.rows)
    (λ j lo hi. let lt : nat_lt j v.view.next_id ≡ true = grind (arith, nat_tests) in ap (unfinished f) (states j) ∙ tested_below f v past j o law lt)

none_recovering : (f : Flow) (v : Start) (past : List Event) (s id : ℕ) → IsOrdered v.view → IsLawful f v past → taken v past s ≡ Some id → (r : Option ℕ) →
    recovering f v past ≡ r → Some id ≡ or_taken r (Some id)
none_recovering f v past s id o law h None e = refl
none_recovering f v past s id o law h (Some k) e = absurd (let w = none_taken v past s (recovered_first f v past k o law e) in cc)

or_none : (r : Option ℕ) → r ≡ or_taken r None
or_none None = refl
or_none (Some k) = refl

served_if : (f : Flow) (v : Start) (past : List Event) (s : ℕ) (l : List IdEvent) → IsOrdered v.view → IsLawful f v past →
    plant.recovering f (id_view f v.view) l ≡ recovering f v past
    → (o : Option ℕ) → taken v past s ≡ o → (b : Bool) → (s == 0) ≡ b →
    serves_in f (id_view f v.view) o s l ≡ (if b then or_taken (recovering f v past) o else o)
served_if f v past s l o law same (Some id) e true z = none_recovering f v past s id o law e (recovering f v past) refl
served_if f v past s l o law same (Some id) e false z = refl
served_if f v past s l o law same None e true z = rw z (same ∙ or_none (recovering f v past))
served_if f v past s l o law same None e false z = rw z refl

pub serves_from : (f : Flow) (v : Start) (past : List Event) (s : ℕ) → IsOrdered v.view → IsLawful f v past → States f v past →
    plant.serves f (id_view f v.view) (session_events f v past) s ≡ serves f v past s
serves_from f v past s o law states =
    ap (λ (t : Option ℕ). serves_in f (id_view f v.view) t s (id_events f v past)) (taken_same f v past s)
    ∙ served_if f v past s (id_events f v past) o law (recovering_same f v past o law states) (taken v past s) refl (s == 0) refl
