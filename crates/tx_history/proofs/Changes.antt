-- Each entry's change leads from the journal before it to the journal after it.
-- for: laws::changes_lead_on
use Rattle.std.proofs.Common.{◌≡◌, ℕ, ◌+◌, ◌-◌, ◌<◌, ◌≤◌, Bool, true, false, List, [], ◌∷◌, ◌++◌, length, Option, Some, None, refl, sym, ◌∙◌, ap, subst, arith}
use Rattle.std.proofs.Common.{suc, map, append-nil}
use Rattle.std.specs.Prelude.{if◌then◌else◌, slice_get, ◌==◌, nat_lt}
use Rattle.std.proofs.lemmas.Bool.Decides.{nat_tests}
use Rattle.flow_model.specs.declared.flow.Flow.{Flow}
use Rattle.tx_machine.specs.declared.values.Due.{Due}
use Rattle.tx_machine.specs.declared.values.Item.{Item}
use Rattle.tx_machine.specs.Table.{TxState}
use Rattle.tx_machine.specs.Due.{due_of}
use Rattle.tx_history.specs.declared.event.Event.{Event}
use Rattle.tx_history.specs.declared.event.Event.TheVariants.{Offered, Taken, Answered, Chose, Told, Recovered, Released, Acked, Broke, Cleared, LetGo, Closed}
use Rattle.tx_history.specs.declared.journal.WaitingContext.{WaitingContext}
use Rattle.tx_history.specs.declared.journal.Row.{Row}
use Rattle.tx_history.specs.Keys.{Rising, look, gather, put_at}
use Rattle.tx_history.specs.History.{Start, reopened_at, begun, first, state_with, next_id, ids, own_items, is_fresh, arrivals, shelved}
use Rattle.tx_history.specs.History.{shelved_in, shelved_at}
use Rattle.tx_history.specs.History.{shelf_of, state_of}
use Rattle.tx_history.specs.Journal.{written, IsLawful, row, row_at, old_row, journal, applied, Leads, change, no_change}
use Rattle.tx_history.specs.Views.{IsOrdered}
use Rattle.tx_history.proofs.RisingKeys.{gather_same, gather_none, gather_look, put_end, put_gather, get_append, look_within}
use Rattle.tx_history.proofs.OwnItems.{fresh_none, room}
use Rattle.tx_history.proofs.GivenItems.{closing, stale_shelved, same_journal, leads_answered, leads_chose, leads_told}

-- the view is the journal of an empty history
row_first : (f : Flow) (v : Start) (id : ℕ) (b : Bool) (o : Option Row) (st : TxState) → b ≡ true → (if b then old_row f o false [] else row f st) ≡ o
row_first f v id true None st h = refl
row_first f v id true (Some r) st h = refl
row_first f v id false o st h = absurd (cc)

shelf_first : (b : Bool) (o p : Option WaitingContext) → b ≡ true → (if b then o else p) ≡ o
shelf_first true o p h = refl
shelf_first false o p h = absurd (cc)

below : (v : Start) (j k : ℕ) → IsOrdered v.view → j < 1 + (v.view.next_id + 0 - 1) → nat_lt j v.view.next_id ≡ true
below v j k o h = let n = o.next in let l : j < v.view.next_id = omega arith in grind (arith, nat_tests)

pub journal_first : (f : Flow) (v : Start) → IsOrdered v.view → journal f v [] ≡ v.view
journal_first f v o =
    let n = o.next in
    let all : 1 + (v.view.next_id + 0 - 1) ≡ v.view.next_id = omega arith in
    let rows : gather (row_at f v []) 1 (v.view.next_id + 0 - 1) ≡ gather (λ id. look id v.view.rows) 1 (v.view.next_id + 0 - 1) =
    gather_same (row_at f v []) (λ id. look id v.view.rows) 1 (v.view.next_id + 0 - 1)
    (λ j a b. row_first f v j (nat_lt j v.view.next_id) (look j v.view.rows) (state_of f v [] j) (below v j 0 o b)) in
    let shelves : gather (shelved_at f v v.queue []) 1 (v.view.next_id + 0 - 1) ≡ gather (λ id. look id v.view.shelf) 1 (v.view.next_id + 0 - 1) =
    gather_same (shelved_at f v v.queue []) (λ id. look id v.view.shelf) 1 (v.view.next_id + 0 - 1)
    (λ j a b. shelf_first (nat_lt j v.view.next_id) (look j v.view.shelf) (shelved f (state_with f v v.queue [] j) false) (below v j 0 o b)) in
    let r : Rising 1 (1 + (v.view.next_id + 0 - 1)) v.view.rows = subst (λ (m : ℕ). Rising 1 m v.view.rows) (sym all) o.rows in
    let s : Rising 1 (1 + (v.view.next_id + 0 - 1)) v.view.shelf = subst (λ (m : ℕ). Rising 1 m v.view.shelf) (sym all) o.shelf in
    let next : v.view.next_id + 0 ≡ v.view.next_id = omega arith in
    same_journal (journal f v []) v.view next
    (rows ∙ gather_look v.view.rows 1 (v.view.next_id + 0 - 1) r)
    (shelves ∙ gather_look v.view.shelf 1 (v.view.next_id + 0 - 1) s)
    refl

-- what arrives later changes no transaction's index
first_if : (f : Flow) (v : Start) (past : List Event) (more : List WaitingContext) (j : ℕ) → IsOrdered v.view → IsLawful f v past → j < 1 + ids v past →
    (b : Bool) → nat_lt j v.view.next_id ≡ b
    → (if b then reopened_at f (look j v.view.rows) else begun f (slice_get (arrivals f v past ++ more) (j - v.view.next_id)))
    ≡ (if b then reopened_at f (look j v.view.rows) else begun f (slice_get (arrivals f v past) (j - v.view.next_id)))
first_if f v past more j o law hi true lt = refl
first_if f v past more j o law hi false lt =
    let n = o.next in
    let above : v.view.next_id ≤ j = grind (arith, nat_tests) in
    rw (get_append (arrivals f v past) more (j - v.view.next_id) (omega (arith, room f v past law))) refl

pub first_more : (f : Flow) (v : Start) (past : List Event) (more : List WaitingContext) (j : ℕ) → IsOrdered v.view → IsLawful f v past → j < 1 + ids v past
    → first f v (arrivals f v past ++ more) j ≡ first f v (arrivals f v past) j
first_more f v past more j o law hi = first_if f v past more j o law hi (nat_lt j v.view.next_id) refl

pub leads_offered : (f : Flow) (v : Start) (past : List Event) (c : List ℕ) → IsOrdered v.view → IsLawful f v (Offered c ∷ past) → Leads f v past (Offered c)
leads_offered f v past c o law =
    let more : List WaitingContext = record { tries = f.retries; context = c } ∷ [] in
    same_journal (applied no_change (journal f v past)) (journal f v (Offered c ∷ past)) refl
    (gather_same (row_at f v past) (row_at f v (Offered c ∷ past)) 1 (ids v past) (λ j a b. sym (rw (first_more f v past more j o law.2 b) refl)))
    (gather_same (shelved_at f v (arrivals f v past) past) (shelved_at f v (arrivals f v past ++ more) (Offered c ∷ past)) 1 (ids v past)
    (λ j a b. sym (rw (first_more f v past more j o law.2 b) refl)))
    refl

released_none : (b : Bool) (d : Due) (st : TxState) → (if b then None else shelved_in d false st) ≡ None
released_none true d st = refl
released_none false d st = stale_shelved d st

pub leads_released : (f : Flow) (v : Start) (past : List Event) → IsOrdered v.view → IsLawful f v (Released ∷ past) → Leads f v past Released
leads_released f v past o law =
    let more : List WaitingContext = map (λ (item : ℕ × WaitingContext). item.1) (shelf_of f v (arrivals f v past) past) in
    same_journal (applied (change f v (Released ∷ past)) (journal f v past)) (journal f v (Released ∷ past)) refl
    (gather_same (row_at f v past) (row_at f v (Released ∷ past)) 1 (ids v past) (λ j a b. sym (rw (first_more f v past more j o law.2 b) refl)))
    (sym (gather_none (shelved_at f v (arrivals f v past ++ more) (Released ∷ past)) 1 (ids v past)
    (λ j a b. released_none (nat_lt j v.view.next_id) (due_of f (state_with f v (arrivals f v past ++ more) (Released ∷ past) j))
    (state_with f v (arrivals f v past ++ more) (Released ∷ past) j))))
    refl

row_new : (f : Flow) (v : Start) (past : List Event) (s : ℕ) → IsOrdered v.view → row f (state_of f v (Taken s ∷ past) (next_id v past))
    ≡ row_at f v (Taken s ∷ past) (next_id v past)
row_new f v past s o = let no : nat_lt (next_id v past) v.view.next_id ≡ false = grind (arith, nat_tests) in rw no refl

shelf_new : (f : Flow) (v : Start) (past : List Event) (s : ℕ) → IsOrdered v.view → shelved_at f v (arrivals f v past) (Taken s ∷ past) (next_id v past) ≡ None
shelf_new f v past s o =
    let no : nat_lt (next_id v past) v.view.next_id ≡ false = grind (arith, nat_tests) in
    let stale : is_fresh f v past (next_id v past) ≡ false = fresh_none f v past (next_id v past) o (omega arith) in
    rw (no, stale) (stale_shelved _ _)

one_more : {A : Type 0} (h : ℕ → Option A) (k n : ℕ) → 1 + k ≡ n → h n ≡ None → gather h 1 (suc k) ≡ gather h 1 k
one_more h k n e none = let last : h (1 + k) ≡ None = ap h e ∙ none in rw (last, append-nil) refl

pub leads_taken : (f : Flow) (v : Start) (past : List Event) (s : ℕ) → IsOrdered v.view → Leads f v past (Taken s)
leads_taken f v past s o =
    let n = o.next in
    let k : ℕ = ids v past in
    let at : 1 + k ≡ next_id v past = omega arith in
    let more : ids v (Taken s ∷ past) ≡ suc k = omega arith in
    let next : next_id v past + 1 ≡ next_id v (Taken s ∷ past) = omega arith in
    let rows : put_at (1 + k) (row_at f v (Taken s ∷ past) (1 + k)) (gather (row_at f v past) 1 k) ≡ gather (row_at f v (Taken s ∷ past)) 1 (suc k) =
    put_end (row_at f v past) (row_at f v (Taken s ∷ past)) 1 k (λ j a b. refl) in
    same_journal (applied (change f v (Taken s ∷ past)) (journal f v past)) (journal f v (Taken s ∷ past)) next
    (ap (λ (r : Option Row). put_at (next_id v past) r (gather (row_at f v past) 1 k)) (row_new f v past s o)
    ∙ (subst (λ (i : ℕ). put_at i (row_at f v (Taken s ∷ past) i) (gather (row_at f v past) 1 k) ≡ gather (row_at f v (Taken s ∷ past)) 1 (suc k)) at rows
    ∙ ap (λ (i : ℕ). gather (row_at f v (Taken s ∷ past)) 1 i) (sym more)))
    (sym (ap (λ (i : ℕ). gather (shelved_at f v (arrivals f v past) (Taken s ∷ past)) 1 i) more
    ∙ one_more (shelved_at f v (arrivals f v past) (Taken s ∷ past)) k (next_id v past) at (shelf_new f v past s o)))
    refl

close_old : (f : Flow) (o : Option Row) (b : Bool) (items : List Item) → b ≡ true → old_row f o b items ≡ None
close_old f None b items h = refl
close_old f (Some r) true items h = refl
close_old f (Some r) false items h = absurd (cc)

pub leads_closed : (f : Flow) (v : Start) (past : List Event) (id : ℕ) → IsOrdered v.view → IsLawful f v (Closed id ∷ past) → Leads f v past (Closed id)
leads_closed f v past id o law =
    let w = closing f v.view.rows 1 v.view.next_id (length past) id o.rows law.0 in
    let k = look_within v.view.rows 1 v.view.next_id id w.row o.rows w.there in
    let lo = k.0 in
    let hi = k.1 in
    let yes : nat_lt id v.view.next_id ≡ true = grind (arith, nat_tests) in
    let self : (id == id) ≡ true = grind (arith, nat_tests) in
    let gone : row_at f v (Closed id ∷ past) id ≡ None = rw (yes, self) (close_old f (look id v.view.rows) true (own_items f v past id) refl) in
    same_journal (applied (change f v (Closed id ∷ past)) (journal f v past)) (journal f v (Closed id ∷ past)) refl
    (ap (λ (r : Option Row). put_at id r (gather (row_at f v past) 1 (ids v past))) (sym gone)
    ∙ put_gather (row_at f v past) (row_at f v (Closed id ∷ past)) 1 (ids v past) id lo (omega arith)
    (λ j a b d. let no : (id == j) ≡ false = grind (arith, nat_tests) in sym (rw no refl)))
    refl
    refl

-- every event
pub leads : (f : Flow) (v : Start) (past : List Event) (e : Event) → IsOrdered v.view → IsLawful f v (e ∷ past) → Leads f v past e
leads f v past (Offered x) o law = leads_offered f v past x o law
leads f v past (Taken t) o law = leads_taken f v past t o
leads f v past (Answered t b x) o law = leads_answered f v past t b x o law
leads f v past (Chose t x) o law = leads_chose f v past t x o law
leads f v past (Told t x) o law = leads_told f v past t x o law
leads f v past (Recovered t x) o law = refl
leads f v past Released o law = leads_released f v past o law
leads f v past (Acked k n) o law = refl
leads f v past (Broke p) o law = refl
leads f v past (Cleared p) o law = refl
leads f v past (LetGo t) o law = refl
leads f v past (Closed k) o law = leads_closed f v past k o law

-- the journal is what the changes of the entries make of the view
pub journal_written : (f : Flow) (v : Start) (past : List Event) → IsOrdered v.view → IsLawful f v past → written f v past ≡ journal f v past
journal_written f v [] o law = sym (journal_first f v o)
journal_written f v (e ∷ past) o law = ap (applied (change f v (e ∷ past))) (journal_written f v past o law.2) ∙ leads f v past e o law
