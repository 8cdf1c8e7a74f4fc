-- The journal of a lawful history that begins from a sound view is sound.
-- for: laws::journals_are_sound
use Rattle.std.proofs.Common.{◌≡◌, ◌≢◌, ℕ, ◌+◌, ◌-◌, ◌<◌, ◌≤◌, Bool, true, false, ◌⊎◌, inl, inr, List, [], ◌∷◌, ◌++◌, length, Option, Some, None, refl, sym}
use Rattle.std.proofs.Common.{◌∙◌, ap, subst, arith, suc, zero, map, length-append}
use Rattle.std.specs.Prelude.{if◌then◌else◌, slice_get, ◌==◌, nat_lt}
use Rattle.std.proofs.lemmas.Bool.Decides.{nat_tests}
use Rattle.flow_model.specs.declared.flow.Flow.{Flow}
use Rattle.tx_machine.specs.declared.values.Due.{Due}
use Rattle.tx_machine.specs.declared.values.Due.TheVariants.{Prepare, PrepareForAbort, Select, Commit, Abort, Shelve, Done}
use Rattle.tx_machine.specs.declared.values.Item.{Item}
use Rattle.tx_machine.specs.declared.values.Item.TheVariants.{Answer, Choice, Told as ToldOne}
use Rattle.tx_machine.specs.Table.{TxState, is_open, is_due}
use Rattle.tx_machine.specs.Due.{due_of}
use Rattle.tx_machine.proofs.StepBounds.{reopened_open}
use Rattle.tx_history.specs.declared.event.Event.{Event}
use Rattle.tx_history.specs.declared.event.Event.TheVariants.{Offered, Taken, Answered, Chose, Told, Recovered, Released, Acked, Broke, Cleared, LetGo, Closed}
use Rattle.tx_history.specs.declared.journal.WaitingContext.{WaitingContext}
use Rattle.tx_history.specs.declared.journal.Row.{Row}
use Rattle.tx_history.specs.Keys.{Rising, look, keyed, gather}
use Rattle.tx_machine.specs.Bounds.{after_newest}
use Rattle.tx_history.specs.History.{Start, to_tell, name_of, number_of, is_committing, is_over, reopened, begun, is_ended, takes, next_id, ids, serves}
use Rattle.tx_history.specs.History.{own_items, is_fresh, is_released, arrivals, shelved, shelved_in, shelved_at, shelf_of, shelf, state_of}
use Rattle.tx_history.specs.Journal.{IsLawful, row, row_at, old_row, is_closed, journal}
use Rattle.tx_history.specs.Views.{IsOrdered, IsNamed, IsDoing, RowFits, WaitingFits, FlowFits, StartFits, IsItem, AreSpelled}
use Rattle.tx_history.proofs.OwnItems.{old_stays, serves_below, is_no, holds_serves}
use Rattle.std.specs.List.{All}
use Rattle.std.specs.Option.{option_map_or}
use Rattle.std.proofs.lemmas.List.Elements.{All-nil, All-cons, All-head, All-tail, All-append, All-map, All-push, All-same}
use Rattle.std.specs.Str.{bytes_eq}
use Rattle.std.proofs.lemmas.Slice.Eq.{bytes_eq-Decides}
use Rattle.sw_context.specs.Spelling.{IsSpelled}
use Rattle.flow_model.specs.declared.numbering.Part.{Part}
use Rattle.flow_model.specs.Places.{parts_of, number_in}
use Rattle.tx_history.specs.History.{shelf_of}
use Rattle.tx_history.proofs.GivenItems.{Gave, gave_answered, gave_chose, gave_told, state_other}
use Rattle.tx_history.proofs.Sessions.{state_given, state_more, state_released}
use Rattle.tx_history.proofs.Rows.{Proper, next_proper, opening_proper, row_fits, row_some, telling, as_row}

-- lists

get_all : {A : Type 0} (P : A → Type 0) (xs : List A) (k : ℕ) (x : A) → All P xs → slice_get xs k ≡ Some x → P x
get_all P [] k x h e = absurd (cc)
get_all P (y ∷ xs) zero x h e = let same : y ≡ x = grind (arith) in subst P same (All-head P y xs h)
get_all P (y ∷ xs) (suc k) x h e = get_all P xs k x (All-tail P y xs h) e

rising_snoc : {A : Type 0} (n m : ℕ) (xs : List (ℕ × A)) (o : Option A) → Rising n m xs → Rising n (m + 1) (xs ++ keyed m o)
rising_snoc n m [] None h = omega arith
rising_snoc n m [] (Some x) h = (h, omega arith, omega arith)
rising_snoc n m (y ∷ xs) o h = let a = h.0 in let b = h.1 in (a, omega arith, rising_snoc (y.0 + 1) m xs o h.2)

pub rising_gather : {A : Type 0} (h : ℕ → Option A) (n k : ℕ) → Rising n (n + k) (gather h n k)
rising_gather h n zero = omega arith
rising_gather h n (suc k) =
    let e : n + k + 1 ≡ n + suc k = omega arith in
    subst (λ (m : ℕ). Rising n m (gather h n (suc k))) e (rising_snoc n (n + k) (gather h n k) (h (n + k)) (rising_gather h n k))

look_keyed : {A : Type 0} (m id : ℕ) (o : Option A) (x : A) → look id (keyed m o) ≡ Some x → (m ≡ id) × (o ≡ Some x)
look_keyed m id None x h = absurd (cc)
look_keyed m id (Some y) x h = by (m == id) refl h
  where
    by : (b : Bool) → (m == id) ≡ b → (if b then Some y else None) ≡ Some x → (m ≡ id) × (Some y ≡ Some x)
    by true e h = let s : m ≡ id = grind (arith, nat_tests) in (s, h)
    by false e h = absurd (cc)

look_append : {A : Type 0} (id : ℕ) (xs ys : List (ℕ × A)) (x : A) → look id (xs ++ ys) ≡ Some x → (look id xs ≡ Some x) ⊎ (look id ys ≡ Some x)
look_append id [] ys x h = inr h
look_append id (y ∷ xs) ys x h = by (y.0 == id) h (look_append id xs ys x)
  where
    by : (b : Bool) → (if b then Some y.1 else look id (xs ++ ys)) ≡ Some x → (look id (xs ++ ys) ≡ Some x → (look id xs ≡ Some x) ⊎ (look id ys ≡ Some x))
        → ((if b then Some y.1 else look id xs) ≡ Some x) ⊎ (look id ys ≡ Some x)
    by true h ih = inl h
    by false h ih = ih h

pub record Gathered {A : Type 0} (h : ℕ → Option A) (n k id : ℕ) (x : A) : Type 0 where
  pub from : n ≤ id
  pub below : id < n + k
  pub is : h id ≡ Some x

pub look_gather : {A : Type 0} (h : ℕ → Option A) (n k id : ℕ) (x : A) → look id (gather h n k) ≡ Some x → Gathered h n k id x
look_gather h n zero id x e = absurd (cc)
look_gather h n (suc k) id x e = elim (look_append id (gather h n k) (keyed (n + k) (h (n + k))) x e) [
  | inl a ↦ (let w = look_gather h n k id x a in let b = w.below in record { from = w.from; below = omega arith; is = w.is })
  | inr a ↦ (let w = look_keyed (n + k) id (h (n + k)) x a in let s = w.0 in record { from = omega arith; below = omega arith; is = ap h (sym s) ∙ w.1 })
]

all_gather : {A : Type 0} (P : A → Type 0) (h : ℕ → Option A) (n k : ℕ) → ((j : ℕ) (x : A) → n ≤ j → j < n + k → h j ≡ Some x → P x) →
    All (λ (p : ℕ × A). P p.1) (gather h n k)
all_gather {A = A} P h n zero each = All-nil (λ p. P p.1)
all_gather {A = A} P h n (suc k) each =
    All-append (λ p. P p.1) (gather h n k) (keyed (n + k) (h (n + k))) (all_gather P h n k (λ j x a b. each j x a (omega arith)))
    (one (h (n + k)) (λ x. each (n + k) x (omega arith) (omega arith)))
  where
    one : (o : Option A) → ((x : A) → o ≡ Some x → P x) → All (λ (p : ℕ × A). P p.1) (keyed (n + k) o)
    one None f = All-nil (λ p. P p.1)
    one (Some x) f = All-cons (λ p. P p.1) (n + k, x) [] (f x refl) (All-nil (λ p. P p.1))

-- names

pub name_back : (ps : List Part) (name : List ℕ) → number_in ps name < length ps → option_map_or (λ (x : Part). x.name) (slice_get ps (number_in ps name))
    [] ≡ name
name_back [] name h = absurd (omega arith)
name_back (p ∷ ps) name h = by (bytes_eq p.name name) refl (name_back ps name)
  where
    by : (b : Bool) → bytes_eq p.name name ≡ b → (number_in ps name < length ps → option_map_or (λ (x : Part). x.name) (slice_get ps (number_in ps name)) []
        ≡ name)
        → option_map_or (λ (x : Part). x.name) (slice_get (p ∷ ps) (number_in (p ∷ ps) name)) [] ≡ name
    by true e ih = rw e ((bytes_eq-Decides p.name name).0 e)
    by false e ih =
        let n : number_in (p ∷ ps) name ≡ suc (number_in ps name) = ap (λ (b : Bool). if b then 0 else number_in ps name + 1) e
        ∙ (let s : number_in ps name + 1 ≡ suc (number_in ps name) = omega arith in s) in
        let lt : number_in ps name < length ps = omega arith in
        rw n (ih lt)

pub names_back : (f : Flow) (names : List (List ℕ)) → All (λ n. number_of f n < length (parts_of f)) names → map (name_of f) (map (number_of f) names) ≡ names
names_back f [] h = refl
names_back f (n ∷ ns) h =
    let one : name_of f (number_of f n) ≡ n = name_back (parts_of f) n (All-head (λ n. number_of f n < length (parts_of f)) n ns h) in
    rw (one, names_back f ns (All-tail (λ n. number_of f n < length (parts_of f)) n ns h)) refl

pub length_numbers : (f : Flow) (names : List (List ℕ)) → length (map (number_of f) names) ≡ length names
length_numbers f [] = refl
length_numbers f (n ∷ ns) = ap (λ k. suc k) (length_numbers f ns)

-- the row of a recovered transaction

pub members_told : (r : Row) (d : Option (List ℕ)) → r.doing ≡ d → RowFits r → length (to_tell r d) ≤ 1001
members_told r None e h = h.members
members_told r (Some n) e h = by (is_open r.phase) refl
  where
    by : (b : Bool) → is_open r.phase ≡ b → length (r.joined ++ n ∷ []) ≤ 1001
    by true o = let m = (h.untold o).1 in omega (arith, length-append r.joined (n ∷ []))
    by false o = absurd (let w = (h.telling o).0 in cc)

names_told : (r : Row) (d : Option (List ℕ)) → IsDoing d → All IsNamed r.joined → All IsNamed (to_tell r d)
names_told r None i h = h
names_told r (Some n) i h = All-push IsNamed r.joined n h i

pub reopened_fits : (f : Flow) (r : Row) (items : List Item) → RowFits r → All (λ n. number_of f n < length (parts_of f)) (to_tell r r.doing) →
    is_ended f (after_newest f (reopened f r) items) ≡ false
    → RowFits (as_row f (after_newest f (reopened f r) items))
reopened_fits f r items h known u =
    let s : TxState = after_newest f (reopened f r) items in
    let w = old_stays f (reopened f r) items refl refl in
    let closed : is_open s.phase ≡ false = ap is_open w.phase ∙ reopened_open (is_committing r.phase) in
    let t = telling f s closed u in
    let names : map (name_of f) s.joined ≡ to_tell r r.doing = ap (map (name_of f)) w.joined ∙ names_back f (to_tell r r.doing) known in
    let few = members_told r r.doing refl h in
    let long : length s.joined ≡ length (to_tell r r.doing) = ap length w.joined ∙ length_numbers f (to_tell r r.doing) in
    let same : length (map (name_of f) s.joined) ≡ length (to_tell r r.doing) = ap length names in
    record {
      members = omega arith;
      names = All-same IsNamed (map (name_of f) s.joined) (to_tell r r.doing) names (names_told r r.doing h.doing h.names);
      doing = subst IsDoing (sym t.doing_none) tt;
      untold = λ o. absurd (cc);
      telling = λ o. (let l = t.left in (t.doing_none, omega arith));
      tries = subst (λ n. n ≤ 100) (sym w.tries) h.tries;
      context = subst IsSpelled (sym w.saved) h.context;
    }

-- every transaction's state is proper

pub own_none : (f : Flow) (v : Start) (past : List Event) (id : ℕ) → IsOrdered v.view → next_id v past ≤ id → own_items f v past id ≡ []
own_none f v [] id o h = refl
own_none f v (Offered x ∷ past) id o h = own_none f v past id o h
own_none f v (Taken t ∷ past) id o h = own_none f v past id o (omega arith)
own_none f v (Answered t b x ∷ past) id o h = rw (is_no (serves f v past t) id (λ e. let w = (serves_below f v past t id o e).1 in omega arith))
    (own_none f v past id o h)
own_none f v (Chose t x ∷ past) id o h = rw (is_no (serves f v past t) id (λ e. let w = (serves_below f v past t id o e).1 in omega arith))
    (own_none f v past id o h)
own_none f v (Told t x ∷ past) id o h = rw (is_no (serves f v past t) id (λ e. let w = (serves_below f v past t id o e).1 in omega arith))
    (own_none f v past id o h)
own_none f v (Recovered t x ∷ past) id o h = own_none f v past id o h
own_none f v (Released ∷ past) id o h = own_none f v past id o h
own_none f v (Acked k n ∷ past) id o h = own_none f v past id o h
own_none f v (Broke p ∷ past) id o h = own_none f v past id o h
own_none f v (Cleared p ∷ past) id o h = own_none f v past id o h
own_none f v (LetGo t ∷ past) id o h = own_none f v past id o h
own_none f v (Closed k ∷ past) id o h = own_none f v past id o h

pub record Good (f : Flow) (v : Start) (past : List Event) : Type 0 where
  pub arrived : All WaitingFits (arrivals f v past)
  pub proper : (j : ℕ) → v.view.next_id ≤ j → j < next_id v past → Proper f (state_of f v past j)

shelved_fits_in : (d : Due) (b : Bool) (f : Flow) (s : TxState) (w : WaitingContext) → Proper f s → shelved_in d b s ≡ Some w → WaitingFits w
shelved_fits_in (Prepare p) b f s w h e = absurd (cc)
shelved_fits_in (PrepareForAbort p) b f s w h e = absurd (cc)
shelved_fits_in (Select p) b f s w h e = absurd (cc)
shelved_fits_in (Commit p) b f s w h e = absurd (cc)
shelved_fits_in (Abort p) b f s w h e = absurd (cc)
shelved_fits_in Done b f s w h e = absurd (cc)
shelved_fits_in Shelve false f s w h e = absurd (cc)
shelved_fits_in Shelve true f s w h e =
    let same : record { tries = s.tries - 1; context = s.saved } ≡ w = grind (arith) in
    let few = h.tries in
    let less : s.tries - 1 ≤ 100 = omega arith in
    subst WaitingFits same (record { tries = less; context = h.saved })

shelf_if : (f : Flow) (v : Start) (past : List Event) (j : ℕ) (w : WaitingContext) → StartFits f v → Good f v past → j < next_id v past → (b c : Bool) →
    nat_lt j v.view.next_id ≡ b
    → (if b then (if c then None else look j v.view.shelf) else shelved f (state_of f v past j) (is_fresh f v past j)) ≡ Some w → WaitingFits w
shelf_if f v past j w st g lt true true e h = absurd (cc)
shelf_if f v past j w st g lt true false e h = st.view.shelf j w h
shelf_if f v past j w st g lt false c e h =
    let above : v.view.next_id ≤ j = grind (arith, nat_tests) in
    shelved_fits_in (due_of f (state_of f v past j)) (is_fresh f v past j) f (state_of f v past j) w (g.proper j above lt) h

pub shelf_fits : (f : Flow) (v : Start) (past : List Event) (j : ℕ) (w : WaitingContext) → StartFits f v → Good f v past → j < next_id v past →
    shelved_at f v (arrivals f v past) past j ≡ Some w → WaitingFits w
shelf_fits f v past j w st g lt h = shelf_if f v past j w st g lt (nat_lt j v.view.next_id) (is_released past) refl h

good_gave : (f : Flow) (v : Start) (past : List Event) (e : Event) (id : ℕ) (x : Item) → FlowFits f → Gave f v past e id x → IsItem x →
    is_due (state_of f v past id) x ≡ true → Good f v past → Good f v (e ∷ past)
good_gave f v past e id x fits g i d h = record {
  arrived = All-same WaitingFits (arrivals f v (e ∷ past)) (arrivals f v past) g.arrived h.arrived;
  proper = λ j lo hi. (let t = g.took in let below : j < next_id v past = omega arith in by j (j == id) refl (h.proper j lo below));
}
  where
    by : (j : ℕ) (b : Bool) → (j == id) ≡ b → Proper f (state_of f v past j) → Proper f (state_of f v (e ∷ past) j)
    by j true z p =
        let same : j ≡ id = grind (arith, nat_tests) in
        let q : Proper f (state_of f v past id) = subst (λ (i : ℕ). Proper f (state_of f v past i)) same p in
        subst (λ (i : ℕ). Proper f (state_of f v (e ∷ past) i)) (sym same)
        (subst (Proper f) (sym (state_given f v past e id x g)) (next_proper f (state_of f v past id) x i d q))
    by j false z p = let differ : j ≢ id = grind (arith, nat_tests) in subst (Proper f) (sym (state_other f v past e id x j g differ)) p

begun_proper : (f : Flow) (o : Option WaitingContext) (ws : List WaitingContext) (k : ℕ) → FlowFits f → All WaitingFits ws → k < length ws → slice_get ws k ≡ o →
    Proper f (begun f o)
begun_proper f None ws k fits all lt e = absurd (within ws k lt e)
  where
    within : (ws : List WaitingContext) (k : ℕ) → k < length ws → slice_get ws k ≡ None → ⊥
    within [] k lt e = omega arith
    within (w ∷ ws) zero lt e = cc
    within (w ∷ ws) (suc k) lt e = within ws k (omega arith) e
begun_proper f (Some w) ws k fits all lt e = let i = get_all WaitingFits ws k w all e in opening_proper f w.tries w.context i.tries i.context

taken_proper : (f : Flow) (v : Start) (past : List Event) (s : ℕ) → FlowFits f → IsOrdered v.view → IsLawful f v (Taken s ∷ past) → Good f v past →
    Proper f (state_of f v (Taken s ∷ past) (next_id v past))
taken_proper f v past s fits o law g =
    let no : nat_lt (next_id v past) v.view.next_id ≡ false = grind (arith, nat_tests) in
    let place : next_id v past - v.view.next_id ≡ takes past = omega arith in
    let none : own_items f v past (next_id v past) ≡ [] = own_none f v past (next_id v past) o (omega arith) in
    let p : Proper f (begun f (slice_get (arrivals f v past) (takes past))) =
    begun_proper f (slice_get (arrivals f v past) (takes past)) (arrivals f v past) (takes past) fits g.arrived law.0.2 refl in
    rw (no, none, place) p

good_taken : (f : Flow) (v : Start) (past : List Event) (s : ℕ) → FlowFits f → IsOrdered v.view → IsLawful f v (Taken s ∷ past) → Good f v past →
    Good f v (Taken s ∷ past)
good_taken f v past s fits o law g = record { arrived = g.arrived; proper = λ j lo hi. by j lo hi (j == next_id v past) refl }
  where
    by : (j : ℕ) → v.view.next_id ≤ j → j < next_id v (Taken s ∷ past) → (b : Bool) → (j == next_id v past) ≡ b → Proper f (state_of f v (Taken s ∷ past) j)
    by j lo hi true e = let same : j ≡ next_id v past = grind (arith, nat_tests) in subst (λ (i : ℕ). Proper f (state_of f v (Taken s ∷ past) i)) (sym same)
        (taken_proper f v past s fits o law g)
    by j lo hi false e = let differ : j ≢ next_id v past = grind (arith, nat_tests) in g.proper j lo (omega arith)

all_items : {A : Type 0} (P : A → Type 0) (xs : List (ℕ × A)) → All (λ p. P p.1) xs → All P (map (λ (p : ℕ × A). p.1) xs)
all_items {A = A} P xs h = All-map P (λ (p : ℕ × A). p.1) xs h

pub good : (f : Flow) (v : Start) (past : List Event) → FlowFits f → StartFits f v → AreSpelled past → IsLawful f v past → Good f v past
good f v [] fits st sp law = record { arrived = st.queue; proper = λ j lo hi. absurd (omega arith) }
good f v (Offered c ∷ past) fits st sp law =
    let o = st.view.ordered in
    let g = good f v past fits st sp.1 law.2 in
    record {
      arrived = All-push WaitingFits (arrivals f v past) (record { tries = f.retries; context = c }) g.arrived
          (record { tries = fits.retries; context = sp.0 });
      proper = λ j lo hi. subst (Proper f) (sym (state_more f v past c j o law.2 hi)) (g.proper j lo hi);
    }
good f v (Released ∷ past) fits st sp law =
    let o = st.view.ordered in
    let g = good f v past fits st sp law.2 in
    let n = o.next in
    record {
      arrived = All-append WaitingFits (arrivals f v past) (map (λ (p : ℕ × WaitingContext). p.1) (shelf_of f v (arrivals f v past) past)) g.arrived
          (all_items WaitingFits (shelf_of f v (arrivals f v past) past) (all_gather WaitingFits (shelved_at f v (arrivals f v past) past) 1 (ids v past)
          (λ j w a b h. shelf_fits f v past j w st g (omega arith) h)));
      proper = λ j lo hi. subst (Proper f) (sym (state_released f v past j o law.2 hi)) (g.proper j lo hi);
    }
good f v (Taken t ∷ past) fits st sp law = good_taken f v past t fits st.view.ordered law (good f v past fits st sp law.2)
good f v (Answered t b x ∷ past) fits st sp law =
    let w = holds_serves f v past t law.0.0 law.0.1 in
    good_gave f v past (Answered t b x) law.0.0 (Answer b x) fits (gave_answered f v past t b x law.0.0 w.0) sp.0 law.0.2 (good f v past fits st sp.1 law.2)
good f v (Chose t x ∷ past) fits st sp law =
    let w = holds_serves f v past t law.0.0 law.0.1 in
    good_gave f v past (Chose t x) law.0.0 (Choice x) fits (gave_chose f v past t x law.0.0 w.0) tt law.0.2 (good f v past fits st sp law.2)
good f v (Told t x ∷ past) fits st sp law =
    let w = holds_serves f v past t law.0.0 law.0.1 in
    good_gave f v past (Told t x) law.0.0 (ToldOne x) fits (gave_told f v past t x law.0.0 w.0) tt law.0.2 (good f v past fits st sp law.2)
good f v (Recovered t x ∷ past) fits st sp law = let g = good f v past fits st sp.1 law.2 in record { arrived = g.arrived; proper = g.proper }
good f v (Acked k n ∷ past) fits st sp law = let g = good f v past fits st sp law.2 in record { arrived = g.arrived; proper = g.proper }
good f v (Broke p ∷ past) fits st sp law = let g = good f v past fits st sp law.2 in record { arrived = g.arrived; proper = g.proper }
good f v (Cleared p ∷ past) fits st sp law = let g = good f v past fits st sp law.2 in record { arrived = g.arrived; proper = g.proper }
good f v (LetGo t ∷ past) fits st sp law = let g = good f v past fits st sp law.2 in record { arrived = g.arrived; proper = g.proper }
good f v (Closed k ∷ past) fits st sp law = let g = good f v past fits st sp law.2 in record { arrived = g.arrived; proper = g.proper }

-- rows

old_fits : (f : Flow) (v : Start) (o : Option Row) (b : Bool) (items : List Item) (r : Row) →
    ((q : Row) → o ≡ Some q → RowFits q × All (λ n. number_of f n < length (parts_of f)) (to_tell q q.doing)) → old_row f o b items ≡ Some r → RowFits r
old_fits f v None b items r h e = absurd (cc)
old_fits f v (Some q) true items r h e = absurd (cc)
old_fits f v (Some q) false [] r h e = let same : q ≡ r = grind (arith) in subst RowFits same (h q refl).0
old_fits f v (Some q) false (x ∷ items) r h e =
    let w = row_some f (after_newest f (reopened f q) (x ∷ items)) r e in
    let k = h q refl in
    subst RowFits w.1 (reopened_fits f q (x ∷ items) k.0 k.1 w.0)

row_if : (f : Flow) (v : Start) (past : List Event) (j : ℕ) (r : Row) → FlowFits f → StartFits f v → Good f v past → j < next_id v past → (b : Bool) →
    nat_lt j v.view.next_id ≡ b
    → (if b then old_row f (look j v.view.rows) (is_closed past j) (own_items f v past j) else row f (state_of f v past j)) ≡ Some r → RowFits r
row_if f v past j r fits st g lt true e h = old_fits f v (look j v.view.rows) (is_closed past j) (own_items f v past j) r
    (λ q i. (st.view.rows j q i, st.knows j q i)) h
row_if f v past j r fits st g lt false e h =
    let above : v.view.next_id ≤ j = grind (arith, nat_tests) in
    row_fits f (state_of f v past j) r fits (g.proper j above lt) h

pub row_at_fits : (f : Flow) (v : Start) (past : List Event) (j : ℕ) (r : Row) → FlowFits f → StartFits f v → Good f v past → j < next_id v past →
    row_at f v past j ≡ Some r → RowFits r
row_at_fits f v past j r fits st g lt h = row_if f v past j r fits st g lt (nat_lt j v.view.next_id) refl h

-- no id with a row is on the shelf

shelved_over : (d : Due) (b : Bool) (s : TxState) (w : WaitingContext) → shelved_in d b s ≡ Some w → is_over d ≡ true
shelved_over (Prepare p) b s w e = absurd (cc)
shelved_over (PrepareForAbort p) b s w e = absurd (cc)
shelved_over (Select p) b s w e = absurd (cc)
shelved_over (Commit p) b s w e = absurd (cc)
shelved_over (Abort p) b s w e = absurd (cc)
shelved_over Done b s w e = refl
shelved_over Shelve b s w e = refl

old_there : (f : Flow) (o : Option Row) (b : Bool) (items : List Item) (r : Row) → old_row f o b items ≡ Some r → (q : Row) × (o ≡ Some q)
old_there f None b items r e = absurd (cc)
old_there f (Some q) b items r e = (q, refl)

apart_if : (f : Flow) (v : Start) (past : List Event) (j : ℕ) (r : Row) (w : WaitingContext) → IsOrdered v.view → (b c : Bool)
    → (if b then old_row f (look j v.view.rows) (is_closed past j) (own_items f v past j) else row f (state_of f v past j)) ≡ Some r
    → (if b then (if c then None else look j v.view.shelf) else shelved f (state_of f v past j) (is_fresh f v past j)) ≡ Some w → ⊥
apart_if f v past j r w o true true h k = cc
apart_if f v past j r w o true false h k = let q = old_there f (look j v.view.rows) (is_closed past j) (own_items f v past j) r h in o.apart j q.0 w q.1 k
apart_if f v past j r w o false c h k =
    let u = (row_some f (state_of f v past j) r h).0 in
    let t : is_ended f (state_of f v past j) ≡ true = shelved_over (due_of f (state_of f v past j)) (is_fresh f v past j) (state_of f v past j) w k in
    cc

pub journal_ordered : (f : Flow) (v : Start) (past : List Event) → IsOrdered v.view → IsOrdered (journal f v past)
journal_ordered f v past o =
    let n = o.next in
    let all : 1 + ids v past ≡ next_id v past = omega arith in
    record {
      next = omega arith;
      rows = subst (λ (m : ℕ). Rising 1 m (gather (row_at f v past) 1 (ids v past))) all (rising_gather (row_at f v past) 1 (ids v past));
      shelf = subst (λ (m : ℕ). Rising 1 m (shelf f v past)) all (rising_gather (shelved_at f v (arrivals f v past) past) 1 (ids v past));
      apart = λ id r w h k. (let a = look_gather (row_at f v past) 1 (ids v past) id r h in let b =
          look_gather (shelved_at f v (arrivals f v past) past) 1 (ids v past) id w k in
          apart_if f v past id r w o (nat_lt id v.view.next_id) (is_released past) a.is b.is);
    }

-- ids

pub ids_last : (f : Flow) (v : Start) (past : List Event) → v.view.next_id ≤ 9223372036854775807 → IsLawful f v past → next_id v past ≤ 9223372036854775807
ids_last f v [] h law = omega arith
ids_last f v (Offered x ∷ past) h law = ids_last f v past h law.2
ids_last f v (Taken t ∷ past) h law = let a = law.0.3 in omega arith
ids_last f v (Answered t b x ∷ past) h law = ids_last f v past h law.2
ids_last f v (Chose t x ∷ past) h law = ids_last f v past h law.2
ids_last f v (Told t x ∷ past) h law = ids_last f v past h law.2
ids_last f v (Recovered t x ∷ past) h law = ids_last f v past h law.2
ids_last f v (Released ∷ past) h law = ids_last f v past h law.2
ids_last f v (Acked k n ∷ past) h law = ids_last f v past h law.2
ids_last f v (Broke p ∷ past) h law = ids_last f v past h law.2
ids_last f v (Cleared p ∷ past) h law = ids_last f v past h law.2
ids_last f v (LetGo t ∷ past) h law = ids_last f v past h law.2
ids_last f v (Closed k ∷ past) h law = ids_last f v past h law.2
