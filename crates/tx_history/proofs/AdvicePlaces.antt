-- The advices of a journal stand under rising places.
-- for: laws::journals_are_sound
use Rattle.std.proofs.Common.{◌≡◌, ℕ, ◌+◌, ◌<◌, ◌≤◌, Bool, true, false, ◌⊎◌, inl, inr, List, [], ◌∷◌, ◌++◌, length, Option, Some, None, refl, sym, ◌∙◌, ap}
use Rattle.std.proofs.Common.{subst, arith, filter}
use Rattle.std.specs.Prelude.{if◌then◌else◌, ◌==◌, nat_lt, not, ◌&&◌, ◌||◌}
use Rattle.std.proofs.lemmas.Bool.Decides.{nat_tests}
use Rattle.flow_model.specs.declared.flow.Flow.{Flow}
use Rattle.tx_machine.specs.declared.values.Item.TheVariants.{Told as ToldOne}
use Rattle.tx_machine.specs.Table.{TxState, is_open, is_due}
use Rattle.tx_history.specs.declared.event.Event.{Event}
use Rattle.tx_history.specs.declared.event.Event.TheVariants.{Offered, Taken, Answered, Chose, Told, Recovered, Released, Acked, Broke, Cleared, LetGo, Closed}
use Rattle.tx_history.specs.Keys.{keyed, put_by, place_lt, put_place}
use Rattle.tx_machine.specs.Bounds.{after_newest}
use Rattle.tx_history.specs.History.{Start, to_tell, reopened, next_id, serves, own_items, state_of, advice_place, place_in, put_advice}
use Rattle.tx_history.specs.Journal.{IsLawful, advices}
use Rattle.tx_history.specs.Views.{PlacesRise, FlowFits, StartFits, AreSpelled}
use Rattle.tx_history.proofs.OwnItems.{old_stays, serves_below, serves_old, holds_serves}
use Rattle.std.specs.List.{All}
use Rattle.std.proofs.lemmas.List.Elements.{All-nil, All-cons, All-head, All-tail, All-append, All-filter}
use Rattle.tx_history.proofs.SoundJournals.{Good, good, members_told, length_numbers}

pub all_imp : {A : Type 0} (P Q : A → Type 0) (xs : List A) → ((x : A) → P x → Q x) → All P xs → All Q xs
all_imp P Q [] f h = All-nil Q
all_imp P Q (x ∷ xs) f h = All-cons Q x xs (f x (All-head P x xs h)) (all_imp P Q xs f (All-tail P x xs h))

abbrev Lower : ℕ × ℕ → ℕ × ℕ → Type 0
Lower a b = (a.0 < b.0) ⊎ ((a.0 ≡ b.0) × (a.1 < b.1))

lower : (a b : ℕ × ℕ) → place_lt a b ≡ true → Lower a b
lower a b h = by (nat_lt a.0 b.0) refl (a.0 == b.0) refl h
  where
    by : (x : Bool) → nat_lt a.0 b.0 ≡ x → (y : Bool) → (a.0 == b.0) ≡ y → (x || (y && nat_lt a.1 b.1)) ≡ true → Lower a b
    by true e y i h = inl (grind (arith, nat_tests))
    by false e true i h = inr (grind (arith, nat_tests), grind (arith, nat_tests))
    by false e false i h = absurd (cc)

is_lower : (a b : ℕ × ℕ) → Lower a b → place_lt a b ≡ true
is_lower a b h = elim h [
  | inl x ↦ (let t : nat_lt a.0 b.0 ≡ true = grind (arith, nat_tests) in rw t refl)
  | inr x ↦ (let p = x.0 in let q = x.1 in let n : nat_lt a.0 b.0 ≡ false = grind (arith, nat_tests) in let e : (a.0 == b.0) ≡ true =
      grind (arith, nat_tests) in let t : nat_lt a.1 b.1 ≡ true = grind (arith, nat_tests) in rw (n, e, t) refl)
]

lower_trans : (a b c : ℕ × ℕ) → Lower a b → Lower b c → Lower a c
lower_trans a b c h k = elim h [
  | inl x ↦ elim k [ inl y ↦ inl (omega arith) | inr y ↦ inl (let p = y.0 in omega arith) ]
  | inr x ↦ elim k [
    | inl y ↦ inl (let p = x.0 in omega arith)
    | inr y ↦ inr (
      let p = x.0 in let q = y.0 in omega arith,
      let p = x.1 in let q = y.1 in
          omega arith,
    )
  ]
]

pub place_trans : (a b c : ℕ × ℕ) → place_lt a b ≡ true → place_lt b c ≡ true → place_lt a c ≡ true
place_trans a b c h k = is_lower a c (lower_trans a b c (lower a b h) (lower b c k))

abbrev Advice : Type 0
Advice = (ℕ × ℕ) × List ℕ

filter_true : (p : Advice → Bool) (xs : List Advice) → All (λ x. p x ≡ true) (filter p xs)
filter_true p [] = All-nil (λ x. p x ≡ true)
filter_true p (x ∷ xs) = by (p x) refl (filter_true p xs)
  where
    by : (b : Bool) → p x ≡ b → All (λ x. p x ≡ true) (filter p xs) → All (λ x. p x ≡ true) (if b then x ∷ filter p xs else filter p xs)
    by true e ih = All-cons (λ x. p x ≡ true) x (filter p xs) e ih
    by false e ih = ih

filter_rise : (n : ℕ) (p : Advice → Bool) (xs : List Advice) → PlacesRise n xs → PlacesRise n (filter p xs)
filter_rise n p [] h = tt
filter_rise n p (x ∷ xs) h = by (p x) (filter_rise n p xs h.4)
  where
    by : (b : Bool) → PlacesRise n (filter p xs) → PlacesRise n (if b then x ∷ filter p xs else filter p xs)
    by true ih = (h.0, h.1, h.2, All-filter p (λ (y : Advice). place_lt x.0 y.0 ≡ true) xs h.3, ih)
    by false ih = ih

append_rise : (n : ℕ) (xs ys : List Advice) → PlacesRise n xs → PlacesRise n ys → All (λ (x : Advice). All (λ (y : Advice). place_lt x.0 y.0 ≡ true) ys) xs
    → PlacesRise n (xs ++ ys)
append_rise n [] ys h k s = k
append_rise n (x ∷ xs) ys h k s = (
  h.0,
  h.1,
  h.2,
  All-append (λ (y : Advice). place_lt x.0 y.0 ≡ true) xs ys h.3 (All-head (λ (x : Advice). All (λ (y : Advice). place_lt x.0 y.0 ≡ true) ys) x xs s),
  append_rise n xs ys h.4 k (All-tail (λ (x : Advice). All (λ (y : Advice). place_lt x.0 y.0 ≡ true) ys) x xs s),
)

abbrev pub KeyFits : ℕ → ℕ × ℕ → Type 0
KeyFits n key = (1 ≤ key.0) × (key.0 < n) × (key.1 ≤ 1000)

keyed_rise : (n : ℕ) (key : ℕ × ℕ) (o : Option (List ℕ)) → ((x : List ℕ) → o ≡ Some x → KeyFits n key) → PlacesRise n (keyed key o)
keyed_rise n key None h = tt
keyed_rise n key (Some x) h = let k = h x refl in (k.0, k.1, k.2, All-nil (λ (y : Advice). place_lt key y.0 ≡ true), tt)

all_keyed : (P : Advice → Type 0) (key : ℕ × ℕ) (o : Option (List ℕ)) → ((x : List ℕ) → P (key, x)) → All P (keyed key o)
all_keyed P key None h = All-nil P
all_keyed P key (Some x) h = All-cons P (key, x) [] (h x) (All-nil P)

put_rise : (n : ℕ) (key : ℕ × ℕ) (o : Option (List ℕ)) (xs : List Advice) → PlacesRise n xs → ((x : List ℕ) → o ≡ Some x → KeyFits n key) →
    PlacesRise n (put_by place_lt key o xs)
put_rise n key o xs h fits =
    let lo : List Advice = filter (λ (p : Advice). place_lt p.0 key) xs in
    let hi : List Advice = filter (λ (p : Advice). place_lt key p.0) xs in
    let under : All (λ (x : Advice). place_lt x.0 key ≡ true) lo = filter_true (λ (p : Advice). place_lt p.0 key) xs in
    let over : All (λ (y : Advice). place_lt key y.0 ≡ true) hi = filter_true (λ (p : Advice). place_lt key p.0) xs in
    let low : PlacesRise n lo = filter_rise n (λ (p : Advice). place_lt p.0 key) xs h in
    let high : PlacesRise n hi = filter_rise n (λ (p : Advice). place_lt key p.0) xs h in
    let left : PlacesRise n (lo ++ keyed key o) = append_rise n lo (keyed key o) low (keyed_rise n key o fits)
    (all_imp (λ (x : Advice). place_lt x.0 key ≡ true) (λ (x : Advice). All (λ (y : Advice). place_lt x.0 y.0 ≡ true) (keyed key o)) lo
    (λ x l. all_keyed (λ (y : Advice). place_lt x.0 y.0 ≡ true) key o (λ i. l)) under) in
    let sep_lo : All (λ (x : Advice). All (λ (y : Advice). place_lt x.0 y.0 ≡ true) hi) lo =
    all_imp (λ (x : Advice). place_lt x.0 key ≡ true) (λ (x : Advice). All (λ (y : Advice). place_lt x.0 y.0 ≡ true) hi) lo
    (λ x l. all_imp (λ (y : Advice). place_lt key y.0 ≡ true) (λ (y : Advice). place_lt x.0 y.0 ≡ true) hi (λ y m. place_trans x.0 key y.0 l m) over) under in
    append_rise n (lo ++ keyed key o) hi left high
    (All-append (λ (x : Advice). All (λ (y : Advice). place_lt x.0 y.0 ≡ true) hi) lo (keyed key o) sep_lo
    (all_keyed (λ (x : Advice). All (λ (y : Advice). place_lt x.0 y.0 ≡ true) hi) key o (λ i. over)))

more_rise : (n m : ℕ) (xs : List Advice) → n ≤ m → PlacesRise n xs → PlacesRise m xs
more_rise n m [] le h = tt
more_rise n m (x ∷ xs) le h = (h.0, (let a = h.1 in omega arith), h.2, h.3, more_rise n m xs le h.4)

put_place_rise : (n : ℕ) (o : Option (ℕ × ℕ)) (a : Option (List ℕ)) (xs : List Advice) → PlacesRise n xs → ((key : ℕ × ℕ) → o ≡ Some key → KeyFits n key) →
    PlacesRise n (put_place (put_advice o a) xs)
put_place_rise n None a xs h fits = h
put_place_rise n (Some key) None xs h fits = h
put_place_rise n (Some key) (Some a) xs h fits = put_rise n key (Some a) xs h (λ x e. fits key refl)

-- the place of a member that is notified

told_below : (x : Bool) (n k : ℕ) → (x && nat_lt n k) ≡ true → n < k
told_below true n k h = grind (arith, nat_tests)
told_below false n k h = absurd (cc)

place_few : (f : Flow) (v : Start) (past : List Event) (s id : ℕ) (a : Option (List ℕ)) → StartFits f v → Good f v past → serves f v past s ≡ Some id →
    is_due (state_of f v past id) (ToldOne a) ≡ true → (state_of f v past id).told ≤ 1000
place_few f v past s id a st g h d = by (nat_lt id v.view.next_id) refl
  where
    by : (b : Bool) → nat_lt id v.view.next_id ≡ b → (state_of f v past id).told ≤ 1000
    by false e =
        let above : v.view.next_id ≤ id = grind (arith, nat_tests) in
        let p = g.proper id above (serves_below f v past s id st.view.ordered h).1 in
        let few = p.bounds.few in
        let lt = told_below (not (is_open (state_of f v past id).phase)) (state_of f v past id).told (length (state_of f v past id).joined) d in
        omega arith
    by true e =
        let below : id < v.view.next_id = grind (arith, nat_tests) in
        let w = serves_old f v past s id st.view.ordered h below in
        let s : TxState = after_newest f (reopened f w.row) (own_items f v past id) in
        let here : state_of f v past id ≡ s = rw (e, w.there) refl in
        let k = old_stays f (reopened f w.row) (own_items f v past id) refl refl in
        let few = members_told w.row w.row.doing refl (st.view.rows id w.row w.there) in
        let long : length s.joined ≡ length (to_tell w.row w.row.doing) = ap length k.joined ∙ length_numbers f (to_tell w.row w.row.doing) in
        let lt = told_below (not (is_open (state_of f v past id).phase)) (state_of f v past id).told (length (state_of f v past id).joined) d in
        let j : length (state_of f v past id).joined ≡ length s.joined = ap (λ (s : TxState). length s.joined) here in
        omega arith

place_is : (f : Flow) (v : Start) (past : List Event) (o : Option ℕ) (id : ℕ) (key : ℕ × ℕ) → o ≡ Some id → place_in f v past o ≡ Some key →
    key ≡ (id, (state_of f v past id).told)
place_is f v past None id key h e = absurd (cc)
place_is f v past (Some k) id key h e =
    let same : k ≡ id = grind (arith) in
    let i : (k, (state_of f v past k).told) ≡ key = grind (arith) in
    sym i ∙ ap (λ (k : ℕ). (k, (state_of f v past k).told)) same

told_fits : (f : Flow) (v : Start) (past : List Event) (s : ℕ) (a : Option (List ℕ)) (key : ℕ × ℕ) → StartFits f v → Good f v past →
    IsLawful f v (Told s a ∷ past) → advice_place f v past s ≡ Some key → KeyFits (next_id v past) key
told_fits f v past s a key st g law h =
    let id : ℕ = law.0.0 in
    let w = holds_serves f v past s id law.0.1 in
    let is = place_is f v past (serves f v past s) id key w.0 h in
    let b = serves_below f v past s id st.view.ordered w.0 in
    let few = place_few f v past s id a st g w.0 law.0.2 in
    subst (KeyFits (next_id v past)) (sym is) (b.0, b.1, few)

pub advices_rise : (f : Flow) (v : Start) (past : List Event) → FlowFits f → StartFits f v → AreSpelled past → IsLawful f v past →
    PlacesRise (next_id v past) (advices f v past)
advices_rise f v [] fits st sp law = more_rise v.view.next_id (v.view.next_id + 0) v.view.advices (omega arith) st.view.advices
advices_rise f v (Taken t ∷ past) fits st sp law = more_rise (next_id v past) (next_id v (Taken t ∷ past)) (advices f v past) (omega arith)
    (advices_rise f v past fits st sp law.2)
advices_rise f v (Told t x ∷ past) fits st sp law = put_place_rise (next_id v past) (advice_place f v past t) x (advices f v past)
    (advices_rise f v past fits st sp law.2) (λ key h. told_fits f v past t x key st (good f v past fits st sp law.2) law h)
advices_rise f v (Acked k n ∷ past) fits st sp law = put_rise (next_id v past) (k, n) None (advices f v past) (advices_rise f v past fits st sp law.2)
    (λ x e. absurd (cc))
advices_rise f v (Offered x ∷ past) fits st sp law = advices_rise f v past fits st sp.1 law.2
advices_rise f v (Answered t b x ∷ past) fits st sp law = advices_rise f v past fits st sp.1 law.2
advices_rise f v (Chose t x ∷ past) fits st sp law = advices_rise f v past fits st sp law.2
advices_rise f v (Recovered t x ∷ past) fits st sp law = advices_rise f v past fits st sp.1 law.2
advices_rise f v (Released ∷ past) fits st sp law = advices_rise f v past fits st sp law.2
advices_rise f v (Broke p ∷ past) fits st sp law = advices_rise f v past fits st sp law.2
advices_rise f v (Cleared p ∷ past) fits st sp law = advices_rise f v past fits st sp law.2
advices_rise f v (LetGo t ∷ past) fits st sp law = advices_rise f v past fits st sp law.2
advices_rise f v (Closed k ∷ past) fits st sp law = advices_rise f v past fits st sp law.2
