-- What sessions hold: the recovered transactions first, and no transaction twice.
-- for: laws::items_are_of_their_holders
use Rattle.std.proofs.Common.{◌≡◌, ◌≢◌, ℕ, ◌<◌, ◌≤◌, Bool, true, false, ◌⊎◌, inl, inr, List, [], ◌∷◌, Option, Some, None, refl, sym, ◌∙◌, ap, arith, map}
use Rattle.std.specs.Prelude.{if◌then◌else◌, ◌==◌, nat_lt}
use Rattle.std.proofs.lemmas.Bool.Decides.{nat_tests}
use Rattle.flow_model.specs.declared.flow.Flow.{Flow}
use Rattle.tx_machine.specs.declared.values.Item.{Item}
use Rattle.tx_machine.specs.declared.values.Item.TheVariants.{Answer, Choice, Told as ToldOne}
use Rattle.tx_machine.specs.Table.{next}
use Rattle.tx_history.specs.declared.event.Event.{Event}
use Rattle.tx_history.specs.declared.event.Event.TheVariants.{Offered, Taken, Answered, Chose, Told, Recovered, Released, Acked, Broke, Cleared, LetGo, Closed}
use Rattle.tx_history.specs.declared.journal.WaitingContext.{WaitingContext}
use Rattle.tx_history.specs.History.{Start, is_ended, takes, next_id, taken, is_id, or_taken, serves, own_items, recovering, arrivals}
use Rattle.tx_history.specs.History.{state_of, held_of, holds}
use Rattle.tx_history.specs.History.{shelf_of}
use Rattle.tx_history.specs.Journal.{IsLawful, IsAccepted}
use Rattle.tx_history.specs.Views.{IsOrdered}
use Rattle.tx_history.proofs.RisingKeys.{look_within}
use Rattle.tx_history.proofs.OwnItems.{found, open_same, taken_below, taken_from, holds_serves}
use Rattle.tx_history.proofs.GivenItems.{Gave, gave_answered, gave_chose, gave_told}
use Rattle.tx_history.proofs.Changes.{first_more}

-- whom a session serves, and why
pick_who : (s : ℕ) (b : Bool) → (s == 0) ≡ b → (o t : Option ℕ) (id : ℕ) → (if b then or_taken o t else t) ≡ Some id
    → ((o ≡ Some id) × (s ≡ 0)) ⊎ (t ≡ Some id)
pick_who s true e None t id h = inr h
pick_who s true e (Some k) t id h = let z : s ≡ 0 = grind (arith, nat_tests) in inl (h, z)
pick_who s false e o t id h = inr h

pub serves_who : (f : Flow) (v : Start) (past : List Event) (s id : ℕ) → serves f v past s ≡ Some id →
    ((recovering f v past ≡ Some id) × (s ≡ 0)) ⊎ (taken v past s ≡ Some id)
serves_who f v past s id h = pick_who s (s == 0) refl (recovering f v past) (taken v past s) id h

-- a recovered id is a journalled one
pub recovering_below : (f : Flow) (v : Start) (past : List Event) (id : ℕ) → IsOrdered v.view → recovering f v past ≡ Some id → id < v.view.next_id
recovering_below f v past id o h =
    let w = found f v.view.rows (own_items f v past) 1 v.view.next_id id o.rows h in
    (look_within v.view.rows 1 v.view.next_id id w.row o.rows w.there).1

-- no two sessions took the same id last
pub taken_once : (v : Start) (past : List Event) (s t id : ℕ) → taken v past s ≡ Some id → taken v past t ≡ Some id → s ≡ t
taken_once v [] s t id h k = absurd (cc)
taken_once v (Offered x ∷ past) s t id h k = taken_once v past s t id h k
taken_once v (Taken u ∷ past) s t id h k = grind (arith, nat_tests, taken_below v past s id, taken_below v past t id, taken_once v past s t id)
taken_once v (Answered u b x ∷ past) s t id h k = taken_once v past s t id h k
taken_once v (Chose u x ∷ past) s t id h k = taken_once v past s t id h k
taken_once v (Told u x ∷ past) s t id h k = taken_once v past s t id h k
taken_once v (Recovered u x ∷ past) s t id h k = taken_once v past s t id h k
taken_once v (Released ∷ past) s t id h k = taken_once v past s t id h k
taken_once v (Acked i n ∷ past) s t id h k = taken_once v past s t id h k
taken_once v (Broke p ∷ past) s t id h k = taken_once v past s t id h k
taken_once v (Cleared p ∷ past) s t id h k = taken_once v past s t id h k
taken_once v (LetGo u ∷ past) s t id h k = taken_once v past s t id h k
taken_once v (Closed i ∷ past) s t id h k = taken_once v past s t id h k

-- no two sessions serve the same transaction
pub served_once : (f : Flow) (v : Start) (past : List Event) (s t id : ℕ) → IsOrdered v.view → serves f v past s ≡ Some id → serves f v past t ≡ Some id
    → s ≡ t
served_once f v past s t id o h k = elim (serves_who f v past s id h) [
  | inl a ↦ elim (serves_who f v past t id k) [
    | inl b ↦ (let x = a.1 in let y = b.1 in omega arith)
    | inr b ↦ absurd (let x = recovering_below f v past id o a.0 in let y = taken_from v past t id b in omega arith)
  ]
  | inr a ↦ elim (serves_who f v past t id k) [
    | inl b ↦ absurd (let x = recovering_below f v past id o b.0 in let y = taken_from v past s id a in omega arith)
    | inr b ↦ taken_once v past s t id a b
  ]
]

-- what is recovered is over before anything is taken

-- an item for a transaction that was taken leaves the journalled ones
pub recovering_other : (f : Flow) (v : Start) (past : List Event) (e : Event) (id : ℕ) (x : Item) → IsOrdered v.view → Gave f v past e id x →
    v.view.next_id ≤ id → recovering f v (e ∷ past) ≡ recovering f v past
recovering_other f v past e id x o g le = open_same f v.view.rows (own_items f v (e ∷ past)) (own_items f v past) 1 v.view.next_id o.rows
    (λ j a b. g.others j (λ d. omega arith))

none_recovering : (f : Flow) (v : Start) (past : List Event) (e : Event) (id s : ℕ) (x : Item) → IsOrdered v.view → Gave f v past e id x →
    serves f v past s ≡ Some id → recovering f v past ≡ None → recovering f v (e ∷ past) ≡ None
none_recovering f v past e id s x o g h none = elim (serves_who f v past s id h) [
  | inl a ↦ absurd (let w = a.0 in cc)
  | inr a ↦ recovering_other f v past e id x o g (taken_from v past s id a) ∙ none
]

-- once nothing is left to recover, that stays so
pub recovered_stays : (f : Flow) (v : Start) (past : List Event) (e : Event) → IsOrdered v.view → IsAccepted f v past e → recovering f v past ≡ None →
    recovering f v (e ∷ past) ≡ None
recovered_stays f v past (Offered x) o acc none = none
recovered_stays f v past (Taken t) o acc none = none
recovered_stays f v past (Answered t b x) o acc none = let w = holds_serves f v past t acc.0 acc.1 in
    none_recovering f v past (Answered t b x) acc.0 t (Answer b x) o (gave_answered f v past t b x acc.0 w.0) w.0 none
recovered_stays f v past (Chose t x) o acc none = let w = holds_serves f v past t acc.0 acc.1 in
    none_recovering f v past (Chose t x) acc.0 t (Choice x) o (gave_chose f v past t x acc.0 w.0) w.0 none
recovered_stays f v past (Told t x) o acc none = let w = holds_serves f v past t acc.0 acc.1 in
    none_recovering f v past (Told t x) acc.0 t (ToldOne x) o (gave_told f v past t x acc.0 w.0) w.0 none
recovered_stays f v past (Recovered t x) o acc none = none
recovered_stays f v past Released o acc none = none
recovered_stays f v past (Acked k n) o acc none = none
recovered_stays f v past (Broke p) o acc none = none
recovered_stays f v past (Cleared p) o acc none = none
recovered_stays f v past (LetGo t) o acc none = none
recovered_stays f v past (Closed k) o acc none = none

-- nothing was taken while something is recovered
first_if : (f : Flow) (v : Start) (past : List Event) (e : Event) (id : ℕ) → IsOrdered v.view → IsAccepted f v past e →
    recovering f v (e ∷ past) ≡ Some id → (o : Option ℕ) → recovering f v past ≡ o
    → ((k : ℕ) → recovering f v past ≡ Some k → takes past ≡ 0) → takes past ≡ 0
first_if f v past e id o acc h None was ih = absurd (let n = recovered_stays f v past e o acc was in cc)
first_if f v past e id o acc h (Some k) was ih = ih k was

pub recovered_first : (f : Flow) (v : Start) (past : List Event) (id : ℕ) → IsOrdered v.view → IsLawful f v past → recovering f v past ≡ Some id →
    takes past ≡ 0
recovered_first f v [] id o law h = refl
recovered_first f v (Offered x ∷ past) id o law h = first_if f v past (Offered x) id o law.0 h (recovering f v past) refl
    (λ i. recovered_first f v past i o law.2)
recovered_first f v (Taken t ∷ past) id o law h = absurd (let n = law.0.0 in cc)
recovered_first f v (Answered t b x ∷ past) id o law h = first_if f v past (Answered t b x) id o law.0 h (recovering f v past) refl
    (λ i. recovered_first f v past i o law.2)
recovered_first f v (Chose t x ∷ past) id o law h = first_if f v past (Chose t x) id o law.0 h (recovering f v past) refl
    (λ i. recovered_first f v past i o law.2)
recovered_first f v (Told t x ∷ past) id o law h = first_if f v past (Told t x) id o law.0 h (recovering f v past) refl
    (λ i. recovered_first f v past i o law.2)
recovered_first f v (Recovered t x ∷ past) id o law h = first_if f v past (Recovered t x) id o law.0 h (recovering f v past) refl
    (λ i. recovered_first f v past i o law.2)
recovered_first f v (Released ∷ past) id o law h = first_if f v past Released id o law.0 h (recovering f v past) refl (λ i. recovered_first f v past i o law.2)
recovered_first f v (Acked k n ∷ past) id o law h = first_if f v past (Acked k n) id o law.0 h (recovering f v past) refl
    (λ i. recovered_first f v past i o law.2)
recovered_first f v (Broke p ∷ past) id o law h = first_if f v past (Broke p) id o law.0 h (recovering f v past) refl (λ i. recovered_first f v past i o law.2)
recovered_first f v (Cleared p ∷ past) id o law h = first_if f v past (Cleared p) id o law.0 h (recovering f v past) refl
    (λ i. recovered_first f v past i o law.2)
recovered_first f v (LetGo t ∷ past) id o law h = first_if f v past (LetGo t) id o law.0 h (recovering f v past) refl (λ i. recovered_first f v past i o law.2)
recovered_first f v (Closed k ∷ past) id o law h = first_if f v past (Closed k) id o law.0 h (recovering f v past) refl
    (λ i. recovered_first f v past i o law.2)

-- session 0 holds the recovered ones first
pub holds_recovered : (f : Flow) (v : Start) (past : List Event) (id : ℕ) → IsOrdered v.view → recovering f v past ≡ Some id → holds f v past 0 ≡ Some id
holds_recovered f v past id o h =
    let w = found f v.view.rows (own_items f v past) 1 v.view.next_id id o.rows h in
    let l : id < v.view.next_id = (look_within v.view.rows 1 v.view.next_id id w.row o.rows w.there).1 in
    let lt : nat_lt id v.view.next_id ≡ true = grind (arith, nat_tests) in
    let u : is_ended f (state_of f v past id) ≡ false = rw (lt, w.there) w.unfinished in
    ap (λ (r : Option ℕ). held_of f v past (or_taken r (taken v past 0))) h ∙ (rw u refl)

-- a transaction's own items are those that were given while it was held
pub own_answered : (f : Flow) (v : Start) (past : List Event) (s b : ℕ) (c : List ℕ) (id : ℕ) → IsAccepted f v past (Answered s b c)
    → own_items f v (Answered s b c ∷ past) id ≡ (if is_id (holds f v past s) id then Answer b c ∷ own_items f v past id else own_items f v past id)
own_answered f v past s b c id acc =
    let w = holds_serves f v past s acc.0 acc.1 in
    ap (λ (o : Option ℕ). if is_id o id then Answer b c ∷ own_items f v past id else own_items f v past id) (w.0 ∙ sym acc.1)

pub own_chose : (f : Flow) (v : Start) (past : List Event) (s : ℕ) (t : List ℕ) (id : ℕ) → IsAccepted f v past (Chose s t)
    → own_items f v (Chose s t ∷ past) id ≡ (if is_id (holds f v past s) id then Choice t ∷ own_items f v past id else own_items f v past id)
own_chose f v past s t id acc =
    let w = holds_serves f v past s acc.0 acc.1 in
    ap (λ (o : Option ℕ). if is_id o id then Choice t ∷ own_items f v past id else own_items f v past id) (w.0 ∙ sym acc.1)

pub own_told : (f : Flow) (v : Start) (past : List Event) (s : ℕ) (a : Option (List ℕ)) (id : ℕ) → IsAccepted f v past (Told s a)
    → own_items f v (Told s a ∷ past) id ≡ (if is_id (holds f v past s) id then ToldOne a ∷ own_items f v past id else own_items f v past id)
own_told f v past s a id acc =
    let w = holds_serves f v past s acc.0 acc.1 in
    ap (λ (o : Option ℕ). if is_id o id then ToldOne a ∷ own_items f v past id else own_items f v past id) (w.0 ∙ sym acc.1)

-- for the engine: what one event changes of what the sessions serve --

pub state_given : (f : Flow) (v : Start) (past : List Event) (e : Event) (id : ℕ) (x : Item) → Gave f v past e id x →
    state_of f v (e ∷ past) id ≡ next f (state_of f v past id) x
state_given f v past e id x g = rw (g.arrived, g.given) refl

-- the other sessions still serve whom they served
other_if : (f : Flow) (v : Start) (past : List Event) (e : Event) (id t : ℕ) (x : Item) → IsOrdered v.view → Gave f v past e id x →
    ((recovering f v past ≡ Some id) × (0 ≡ t) → ⊥) → ((recovering f v past ≡ Some id → ⊥) → v.view.next_id ≤ id)
    → taken v (e ∷ past) t ≡ taken v past t → (b : Bool) → (t == 0) ≡ b → serves f v (e ∷ past) t ≡ serves f v past t
other_if f v past e id t x o g apart new same true z =
    let zero_is : 0 ≡ t = grind (arith, nat_tests) in
    let le : v.view.next_id ≤ id = new (λ r. apart (r, zero_is)) in
    rw (z, same, recovering_other f v past e id x o g le) refl
other_if f v past e id t x o g apart new same false z = rw (z, same) refl

pub serves_other : (f : Flow) (v : Start) (past : List Event) (e : Event) (id s t : ℕ) (x : Item) → IsOrdered v.view → Gave f v past e id x →
    serves f v past s ≡ Some id → s ≢ t
    → taken v (e ∷ past) t ≡ taken v past t → serves f v (e ∷ past) t ≡ serves f v past t
serves_other f v past e id s t x o g h d same =
    elim (serves_who f v past s id h) [
      | inl a ↦ other_if f v past e id t x o g (λ w. d (let p = a.1 in let q = w.1 in omega arith)) (λ n. absurd (n a.0)) same (t == 0) refl
      | inr a ↦ other_if f v past e id t x o g (λ w. let p = recovering_below f v past id o w.0 in let q = taken_from v past s id a in omega arith)
          (λ n. taken_from v past s id a) same (t == 0) refl
    ]

-- what arrives later changes no transaction's state
pub state_more : (f : Flow) (v : Start) (past : List Event) (c : List ℕ) (j : ℕ) → IsOrdered v.view → IsLawful f v past → j < next_id v past →
    state_of f v (Offered c ∷ past) j ≡ state_of f v past j
state_more f v past c j o law lt = let n = o.next in rw (first_more f v past (record { tries = f.retries; context = c } ∷ []) j o law (omega arith)) refl

pub state_released : (f : Flow) (v : Start) (past : List Event) (j : ℕ) → IsOrdered v.view → IsLawful f v past → j < next_id v past →
    state_of f v (Released ∷ past) j ≡ state_of f v past j
state_released f v past j o law lt = let n = o.next in rw (first_more f v past
    (map (λ (item : ℕ × WaitingContext). item.1) (shelf_of f v (arrivals f v past) past)) j o law (omega arith)) refl
