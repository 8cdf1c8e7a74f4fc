-- The journalled transactions are recovered one after the other.
-- for: laws::recovered_in_turn
use Rattle.std.proofs.Common.{◌≡◌, ◌≢◌, ℕ, ◌+◌, ◌<◌, ◌≤◌, Bool, true, false, inl, inr, List, [], ◌∷◌, Option, Some, None, refl, sym, ◌∙◌, ap, subst, arith}
use Rattle.std.proofs.Common.{filter}
use Rattle.std.specs.Prelude.{if◌then◌else◌, ◌==◌, nat_lt}
use Rattle.std.proofs.lemmas.Bool.Decides.{nat_tests}
use Rattle.flow_model.specs.declared.flow.Flow.{Flow}
use Rattle.tx_machine.specs.declared.values.Item.{Item}
use Rattle.tx_machine.specs.declared.values.Item.TheVariants.{Answer, Choice, Told as ToldOne}
use Rattle.tx_machine.specs.Table.{TxState}
use Rattle.tx_history.specs.declared.event.Event.{Event}
use Rattle.tx_history.specs.declared.event.Event.TheVariants.{Offered, Taken, Answered, Chose, Told, Recovered, Released, Acked, Broke, Cleared, LetGo, Closed}
use Rattle.tx_history.specs.declared.journal.Row.{Row}
use Rattle.tx_history.specs.Keys.{Rising, look}
use Rattle.tx_machine.specs.Bounds.{after_newest}
use Rattle.tx_history.specs.History.{Start, reopened, is_ended, first_unfinished, serves, own_items, recovering, state_of}
use Rattle.tx_history.specs.Journal.{IsLawful, IsAccepted}
use Rattle.tx_history.specs.Views.{IsOrdered}
use Rattle.tx_history.proofs.RisingKeys.{look_within}
use Rattle.tx_history.proofs.OwnItems.{found, open_same, taken_from, holds_serves}
use Rattle.tx_history.proofs.GivenItems.{Gave, gave_answered, gave_chose, gave_told}
use Rattle.tx_history.proofs.Sessions.{serves_who, recovered_stays, recovering_below, recovering_other}

found_from : (f : Flow) (rows : List (ℕ × Row)) (items : ℕ → List Item) (n m id : ℕ) → Rising n m rows → first_unfinished f rows items ≡ Some id → n ≤ id
found_from f rows items n m id r h = let w = found f rows items n m id r h in (look_within rows n m id w.row r w.there).0

-- after an item for the one that is being recovered, those before it are still over
step_if : (f : Flow) (r : ℕ × Row) (rows : List (ℕ × Row)) (a b : ℕ → List Item) (n m k id : ℕ) → Rising n m (r ∷ rows) → ((j : ℕ) → j ≢ k → b j ≡ a j) →
    (first_unfinished f rows a ≡ Some k → first_unfinished f rows b ≡ Some id → k ≤ id)
    → (x : Bool) → is_ended f (after_newest f (reopened f r.1) (a r.0)) ≡ x → (if x then first_unfinished f rows a else Some r.0) ≡ Some k
    → (y : Bool) → is_ended f (after_newest f (reopened f r.1) (b r.0)) ≡ y → (if y then first_unfinished f rows b else Some r.0) ≡ Some id → k ≤ id
step_if f r rows a b n m k id rise same ih true e h true d i = ih h i
step_if f r rows a b n m k id rise same ih true e h false d i =
    let above = found_from f rows a (r.0 + 1) m k rise.2 h in
    let alike : b r.0 ≡ a r.0 = same r.0 (λ z. omega arith) in
    let over : is_ended f (after_newest f (reopened f r.1) (b r.0)) ≡ true = rw alike e in
    absurd (cc)
step_if f r rows a b n m k id rise same ih false e h true d i =
    let here : r.0 ≡ k = grind (arith) in
    let above = found_from f rows b (r.0 + 1) m id rise.2 i in
    omega arith
step_if f r rows a b n m k id rise same ih false e h false d i =
    let here : r.0 ≡ k = grind (arith) in
    let there : r.0 ≡ id = grind (arith) in
    omega arith

pub step_on : (f : Flow) (rows : List (ℕ × Row)) (a b : ℕ → List Item) (n m k id : ℕ) → Rising n m rows → ((j : ℕ) → j ≢ k → b j ≡ a j) →
    first_unfinished f rows a ≡ Some k → first_unfinished f rows b ≡ Some id → k ≤ id
step_on f [] a b n m k id rise same h i = absurd (cc)
step_on f (r ∷ rows) a b n m k id rise same h i =
    step_if f r rows a b n m k id rise same (step_on f rows a b (r.0 + 1) m k id rise.2 same) (is_ended f (after_newest f (reopened f r.1) (a r.0))) refl h
    (is_ended f (after_newest f (reopened f r.1) (b r.0))) refl i

gave_later : (f : Flow) (v : Start) (past : List Event) (e : Event) (k s id j : ℕ) (x : Item) → IsOrdered v.view → IsAccepted f v past e →
    Gave f v past e k x → serves f v past s ≡ Some k → recovering f v (e ∷ past) ≡ Some id → id < j → j < v.view.next_id
    → ((i : ℕ) → recovering f v past ≡ Some i → i < j → own_items f v past j ≡ []) → (o : Option ℕ) → recovering f v past ≡ o → own_items f v (e ∷ past) j ≡ []
gave_later f v past e k s id j x o acc g h r lt le ih None was = absurd (let n = recovered_stays f v past e o acc was in cc)
gave_later f v past e k s id j x o acc g h r lt le ih (Some i) was = elim (serves_who f v past s k h) [
  | inl a ↦ (let same : k ≡ i = (let w = a.0 in grind (arith)) in
      let on : k ≤ id = step_on f v.view.rows (own_items f v past) (own_items f v (e ∷ past)) 1 v.view.next_id k id o.rows g.others a.0 r in
      g.others j (λ z. omega arith) ∙ ih k a.0 (omega arith))
  | inr a ↦ (let above = taken_from v past s k a in
      let still : recovering f v (e ∷ past) ≡ recovering f v past = recovering_other f v past e k x o g above in
      let eq : Some i ≡ Some id = sym was ∙ (sym still ∙ r) in
      let same : i ≡ id = grind (arith) in
      g.others j (λ z. omega arith) ∙ ih i was (omega arith))
]

-- those after the one that is being recovered have no items yet
pub later_none : (f : Flow) (v : Start) (past : List Event) (id j : ℕ) → IsOrdered v.view → IsLawful f v past → recovering f v past ≡ Some id → id < j →
    j < v.view.next_id → own_items f v past j ≡ []
later_none f v [] id j o law h lt le = refl
later_none f v (Offered x ∷ past) id j o law h lt le = later_none f v past id j o law.2 h lt le
later_none f v (Taken t ∷ past) id j o law h lt le = later_none f v past id j o law.2 h lt le
later_none f v (Answered t b x ∷ past) id j o law h lt le =
    let w = holds_serves f v past t law.0.0 law.0.1 in
    gave_later f v past (Answered t b x) law.0.0 t id j (Answer b x) o law.0 (gave_answered f v past t b x law.0.0 w.0) w.0 h lt le
    (λ i k l. later_none f v past i j o law.2 k l le) (recovering f v past) refl
later_none f v (Chose t x ∷ past) id j o law h lt le =
    let w = holds_serves f v past t law.0.0 law.0.1 in
    gave_later f v past (Chose t x) law.0.0 t id j (Choice x) o law.0 (gave_chose f v past t x law.0.0 w.0) w.0 h lt le
    (λ i k l. later_none f v past i j o law.2 k l le) (recovering f v past) refl
later_none f v (Told t x ∷ past) id j o law h lt le =
    let w = holds_serves f v past t law.0.0 law.0.1 in
    gave_later f v past (Told t x) law.0.0 t id j (ToldOne x) o law.0 (gave_told f v past t x law.0.0 w.0) w.0 h lt le
    (λ i k l. later_none f v past i j o law.2 k l le) (recovering f v past) refl
later_none f v (Recovered t x ∷ past) id j o law h lt le = later_none f v past id j o law.2 h lt le
later_none f v (Released ∷ past) id j o law h lt le = later_none f v past id j o law.2 h lt le
later_none f v (Acked i n ∷ past) id j o law h lt le = later_none f v past id j o law.2 h lt le
later_none f v (Broke p ∷ past) id j o law h lt le = later_none f v past id j o law.2 h lt le
later_none f v (Cleared p ∷ past) id j o law h lt le = later_none f v past id j o law.2 h lt le
later_none f v (LetGo t ∷ past) id j o law h lt le = later_none f v past id j o law.2 h lt le
later_none f v (Closed i ∷ past) id j o law h lt le = later_none f v past id j o law.2 h lt le

-- who comes next
pub filter_above : {A : Type 0} (k n m : ℕ) (rows : List (ℕ × A)) → k < n → Rising n m rows → filter (λ (p : ℕ × A). nat_lt k p.0) rows ≡ rows
filter_above k n m [] lt rise = refl
filter_above k n m (r ∷ rows) lt rise =
    let lo = rise.0 in
    let yes : nat_lt k r.0 ≡ true = grind (arith, nat_tests) in
    rw (yes, filter_above k (r.0 + 1) m rows (omega arith) rise.2) refl

abbrev pub fresh_items : ℕ → List Item
fresh_items j = []

abbrev pub rows_after : ℕ → List (ℕ × Row) → List (ℕ × Row)
rows_after k rows = filter (λ (p : ℕ × Row). nat_lt k p.0) rows

abbrev pub one_after : Flow → List (ℕ × Row) → ℕ → Bool → Option ℕ
one_after f rows k ended = if ended then first_unfinished f (rows_after k rows) fresh_items else Some k

next_if : (f : Flow) (r : ℕ × Row) (rows : List (ℕ × Row)) (a b : ℕ → List Item) (n m k : ℕ) (q : Row) → Rising n m (r ∷ rows) →
    ((j : ℕ) → j ≢ k → b j ≡ a j) → ((j : ℕ) → k < j → j < m → b j ≡ []) → look k (r ∷ rows) ≡ Some q
    → (first_unfinished f rows a ≡ Some k → look k rows ≡ Some q →
    first_unfinished f rows b ≡ one_after f rows k (is_ended f (after_newest f (reopened f q) (b k))))
    → (x : Bool) → is_ended f (after_newest f (reopened f r.1) (a r.0)) ≡ x → (if x then first_unfinished f rows a else Some r.0) ≡ Some k
    → first_unfinished f (r ∷ rows) b ≡ one_after f (r ∷ rows) k (is_ended f (after_newest f (reopened f q) (b k)))
next_if f r rows a b n m k q rise same later there ih true e h =
    let above = found_from f rows a (r.0 + 1) m k rise.2 h in
    let differ : (r.0 == k) ≡ false = grind (arith, nat_tests) in
    let rest : look k rows ≡ Some q = subst (λ (x : Bool). (if x then Some r.1 else look k rows) ≡ Some q) differ there in
    let alike : b r.0 ≡ a r.0 = same r.0 (λ z. omega arith) in
    let over : is_ended f (after_newest f (reopened f r.1) (b r.0)) ≡ true = rw alike e in
    let low : nat_lt k r.0 ≡ false = grind (arith, nat_tests) in
    rw (over, low) (ih h rest)
next_if f r rows a b n m k q rise same later there ih false e h =
    let here : r.0 ≡ k = grind (arith) in
    let yes : (r.0 == k) ≡ true = grind (arith, nat_tests) in
    let row : Some r.1 ≡ Some q = subst (λ (x : Bool). (if x then Some r.1 else look k rows) ≡ Some q) yes there in
    let eq : r.1 ≡ q = grind (arith) in
    let low : nat_lt k r.0 ≡ false = grind (arith, nat_tests) in
    let none : first_unfinished f rows b ≡ first_unfinished f rows fresh_items =
    open_same f rows b fresh_items (r.0 + 1) m rise.2 (λ j c d. later j (omega arith) d) in
    let all : rows_after k rows ≡ rows = filter_above k (r.0 + 1) m rows (omega arith) rise.2 in
    let test : is_ended f (after_newest f (reopened f r.1) (b r.0)) ≡ is_ended f (after_newest f (reopened f q) (b k)) =
    ap (λ (q : Row). is_ended f (after_newest f (reopened f q) (b r.0))) eq ∙ ap (λ (i : ℕ). is_ended f (after_newest f (reopened f q) (b i))) here in
    rw (test, low, all, none, here) refl

next_on : (f : Flow) (rows : List (ℕ × Row)) (a b : ℕ → List Item) (n m k : ℕ) (q : Row) → Rising n m rows → ((j : ℕ) → j ≢ k → b j ≡ a j) →
    ((j : ℕ) → k < j → j < m → b j ≡ []) → look k rows ≡ Some q → first_unfinished f rows a ≡ Some k
    → first_unfinished f rows b ≡ one_after f rows k (is_ended f (after_newest f (reopened f q) (b k)))
next_on f [] a b n m k q rise same later there h = absurd (cc)
next_on f (r ∷ rows) a b n m k q rise same later there h =
    next_if f r rows a b n m k q rise same later there (λ i t. next_on f rows a b (r.0 + 1) m k q rise.2 same later t i)
    (is_ended f (after_newest f (reopened f r.1) (a r.0))) refl h

-- after an item for the one that is being recovered: the same one, or the first one after it with somebody to notify
pub recovering_next : (f : Flow) (v : Start) (past : List Event) (e : Event) (id : ℕ) (x : Item) → IsOrdered v.view → IsLawful f v past →
    Gave f v past e id x → recovering f v past ≡ Some id
    → recovering f v (e ∷ past) ≡ one_after f v.view.rows id (is_ended f (state_of f v (e ∷ past) id))
recovering_next f v past e id x o law g h =
    let w = found f v.view.rows (own_items f v past) 1 v.view.next_id id o.rows h in
    let l : id < v.view.next_id = recovering_below f v past id o h in
    let lt : nat_lt id v.view.next_id ≡ true = grind (arith, nat_tests) in
    let here : state_of f v (e ∷ past) id ≡ after_newest f (reopened f w.row) (own_items f v (e ∷ past) id) = rw (lt, w.there) refl in
    next_on f v.view.rows (own_items f v past) (own_items f v (e ∷ past)) 1 v.view.next_id id w.row o.rows g.others
    (λ j a b. g.others j (λ z. omega arith) ∙ later_none f v past id j o law h a b) w.there h
    ∙ ap (λ (s : TxState). one_after f v.view.rows id (is_ended f s)) (sym here)
