-- A journal has at most one row for each session, or the rows that it began with.
-- for: laws::journals_are_sound
use Rattle.std.proofs.Common.{◌≡◌, ◌≢◌, ℕ, ◌+◌, ◌<◌, ◌≤◌, Bool, true, false, List, [], ◌∷◌, length, Option, Some, None, refl, sym, ◌∙◌, ap, subst, arith, suc}
use Rattle.std.proofs.Common.{zero, length-append}
use Rattle.std.specs.Prelude.{if◌then◌else◌, slice_get, ◌==◌, nat_lt, ◌||◌}
use Rattle.std.proofs.lemmas.Bool.Decides.{nat_tests}
use Rattle.std.proofs.lemmas.Option.{slice_get_within}
use Rattle.flow_model.specs.declared.flow.Flow.{Flow}
use Rattle.tx_machine.specs.declared.values.Item.{Item}
use Rattle.tx_machine.specs.declared.values.Item.TheVariants.{Answer, Choice, Told as ToldOne}
use Rattle.tx_machine.specs.Table.{TxState}
use Rattle.tx_history.specs.declared.event.Event.{Event}
use Rattle.tx_history.specs.declared.event.Event.TheVariants.{Offered, Taken, Answered, Chose, Told, Recovered, Released, Acked, Broke, Cleared, LetGo, Closed}
use Rattle.tx_history.specs.declared.journal.Row.{Row}
use Rattle.tx_history.specs.Keys.{Rising, look, keyed, gather}
use Rattle.tx_machine.specs.Bounds.{after_newest}
use Rattle.tx_history.specs.History.{Start, reopened, is_ended, takes, next_id, ids, taken, serves, own_items, recovering, arrivals, shelved_at, state_of}
use Rattle.tx_history.specs.History.{holds}
use Rattle.tx_history.specs.Journal.{IsLawful, IsAccepted, to_close, row, row_at, old_row, is_closed, journal}
use Rattle.tx_history.specs.Views.{IsOrdered, IsOk, FlowFits, StartFits, AreSpelled}
use Rattle.tx_history.proofs.RisingKeys.{gather_look, look_within}
use Rattle.tx_history.proofs.OwnItems.{holds_serves}
use Rattle.tx_history.proofs.GivenItems.{Gave, gave_answered, gave_chose, gave_told, state_other}
use Rattle.tx_history.proofs.Sessions.{state_more, state_released}
use Rattle.tx_history.proofs.Rows.{as_row, row_some, row_unended}
use Rattle.tx_history.proofs.SoundJournals.{good}
use Rattle.tx_history.specs.History.{first_unfinished, or_taken, held_of}
use Rattle.tx_history.specs.Views.{AreSessions}
use Rattle.tx_history.proofs.Sessions.{recovered_first}
use Rattle.tx_history.proofs.SoundJournals.{look_gather, journal_ordered, ids_last, row_at_fits, shelf_fits, rising_gather}
use Rattle.tx_history.proofs.AdvicePlaces.{advices_rise}

-- the closing entries

close_in_if : (f : Flow) (r : ℕ × Row) (rows : List (ℕ × Row)) (id : ℕ) (q : Row) →
    ((k : ℕ) → slice_get (to_close f rows) k ≡ Some id → (k : ℕ) × (slice_get (to_close f (r ∷ rows)) k ≡ Some id)) →
    (look id rows ≡ Some q → (k : ℕ) × (slice_get (to_close f rows) k ≡ Some id))
    → is_ended f (reopened f q) ≡ true → (b : Bool) → (r.0 == id) ≡ b → (if b then Some r.1 else look id rows) ≡ Some q →
    (k : ℕ) × (slice_get (to_close f (r ∷ rows)) k ≡ Some id)
close_in_if f r rows id q later ih over true e h =
    let same : r.0 ≡ id = grind (arith, nat_tests) in
    let row : r.1 ≡ q = grind (arith) in
    let yes : is_ended f (reopened f r.1) ≡ true = rw row over in
    (0, rw yes (ap Some same))
close_in_if f r rows id q later ih over false e h = let w = ih h in later w.0 w.1

close_later : (f : Flow) (r : ℕ × Row) (rows : List (ℕ × Row)) (id k : ℕ) → slice_get (to_close f rows) k ≡ Some id →
    (k : ℕ) × (slice_get (to_close f (r ∷ rows)) k ≡ Some id)
close_later f r rows id k h = by (is_ended f (reopened f r.1)) refl
  where
    by : (b : Bool) → is_ended f (reopened f r.1) ≡ b → (k : ℕ) × (slice_get (to_close f (r ∷ rows)) k ≡ Some id)
    by true e = (suc k, rw e h)
    by false e = (k, rw e h)

close_in : (f : Flow) (rows : List (ℕ × Row)) (id : ℕ) (q : Row) → look id rows ≡ Some q → is_ended f (reopened f q) ≡ true →
    (k : ℕ) × (slice_get (to_close f rows) k ≡ Some id)
close_in f [] id q h over = absurd (cc)
close_in f (r ∷ rows) id q h over = close_in_if f r rows id q (λ k. close_later f r rows id k) (λ i. close_in f rows id q i over) over (r.0 == id) refl h

later_no : (f : Flow) (v : Start) (past : List Event) (k id : ℕ) → slice_get (to_close f v.view.rows) k ≡ Some id →
    length (to_close f v.view.rows) ≤ length past → k < length past
later_no f v past k id h le = let w = slice_get_within (to_close f v.view.rows) k id h in omega arith

closed_new : (f : Flow) (v : Start) (past : List Event) (j k id : ℕ) → slice_get (to_close f v.view.rows) (length past) ≡ Some j →
    slice_get (to_close f v.view.rows) k ≡ Some id → k < length past + 1
    → (k < length past → is_closed past id ≡ true) → (b : Bool) → (k == length past) ≡ b → ((j == id) || is_closed past id) ≡ true
closed_new f v past j k id at h lt ih true e =
    let same : k ≡ length past = grind (arith, nat_tests) in
    let both : Some j ≡ Some id = sym at ∙ (ap (λ (i : ℕ). slice_get (to_close f v.view.rows) i) (sym same) ∙ h) in
    let eq : j ≡ id = grind (arith) in
    let yes : (j == id) ≡ true = grind (arith, nat_tests) in
    rw yes refl
closed_new f v past j k id at h lt ih false e =
    let differ : k ≢ length past = grind (arith, nat_tests) in
    let c : is_closed past id ≡ true = ih (omega arith) in
    by (j == id) (is_closed past id) c
  where
    by : (x y : Bool) → y ≡ true → (x || y) ≡ true
    by true y h = refl
    by false y h = h

closed_all : (f : Flow) (v : Start) (past : List Event) (k id : ℕ) → IsLawful f v past → k < length past → slice_get (to_close f v.view.rows) k ≡ Some id →
    is_closed past id ≡ true
closed_all f v [] k id law lt h = absurd (omega arith)
closed_all f v (Offered x ∷ past) k id law lt h = closed_all f v past k id law.2 (later_no f v past k id h law.1.0) h
closed_all f v (Taken t ∷ past) k id law lt h = closed_all f v past k id law.2 (later_no f v past k id h law.1.0) h
closed_all f v (Answered t b x ∷ past) k id law lt h = closed_all f v past k id law.2 (later_no f v past k id h law.1.0) h
closed_all f v (Chose t x ∷ past) k id law lt h = closed_all f v past k id law.2 (later_no f v past k id h law.1.0) h
closed_all f v (Told t x ∷ past) k id law lt h = closed_all f v past k id law.2 (later_no f v past k id h law.1.0) h
closed_all f v (Recovered t x ∷ past) k id law lt h = closed_all f v past k id law.2 (later_no f v past k id h law.1.0) h
closed_all f v (Released ∷ past) k id law lt h = closed_all f v past k id law.2 (later_no f v past k id h law.1.0) h
closed_all f v (Acked i n ∷ past) k id law lt h = closed_all f v past k id law.2 (later_no f v past k id h law.1.0) h
closed_all f v (Broke p ∷ past) k id law lt h = closed_all f v past k id law.2 (later_no f v past k id h law.1.0) h
closed_all f v (Cleared p ∷ past) k id law lt h = closed_all f v past k id law.2 (later_no f v past k id h law.1.0) h
closed_all f v (LetGo t ∷ past) k id law lt h = closed_all f v past k id law.2 (later_no f v past k id h law.1.0) h
closed_all f v (Closed i ∷ past) k id law lt h = closed_new f v past i k id law.0 h (omega arith) (λ l. closed_all f v past k id law.2 l h)
    (k == length past) refl

closings_done : (f : Flow) (v : Start) (past : List Event) → IsLawful f v past → 0 < takes past → length (to_close f v.view.rows) ≤ length past
closings_done f v [] law lt = absurd (omega arith)
closings_done f v (Offered x ∷ past) law lt = let a = closings_done f v past law.2 lt in omega arith
closings_done f v (Taken t ∷ past) law lt = let a = law.1.0 in omega arith
closings_done f v (Answered t b x ∷ past) law lt = let a = closings_done f v past law.2 lt in omega arith
closings_done f v (Chose t x ∷ past) law lt = let a = closings_done f v past law.2 lt in omega arith
closings_done f v (Told t x ∷ past) law lt = let a = closings_done f v past law.2 lt in omega arith
closings_done f v (Recovered t x ∷ past) law lt = let a = closings_done f v past law.2 lt in omega arith
closings_done f v (Released ∷ past) law lt = let a = closings_done f v past law.2 lt in omega arith
closings_done f v (Acked k n ∷ past) law lt = let a = closings_done f v past law.2 lt in omega arith
closings_done f v (Broke p ∷ past) law lt = let a = closings_done f v past law.2 lt in omega arith
closings_done f v (Cleared p ∷ past) law lt = let a = closings_done f v past law.2 lt in omega arith
closings_done f v (LetGo t ∷ past) law lt = let a = closings_done f v past law.2 lt in omega arith
closings_done f v (Closed k ∷ past) law lt = let a = closings_done f v past law.2 lt in omega arith

none_open_if : (f : Flow) (r : ℕ × Row) (rows : List (ℕ × Row)) (items : ℕ → List Item) (id : ℕ) (q : Row) →
    (first_unfinished f rows items ≡ None → look id rows ≡ Some q → is_ended f (after_newest f (reopened f q) (items id)) ≡ true)
    → (b : Bool) → is_ended f (after_newest f (reopened f r.1) (items r.0)) ≡ b → (if b then first_unfinished f rows items else Some r.0) ≡ None →
    (c : Bool) → (r.0 == id) ≡ c → (if c then Some r.1 else look id rows) ≡ Some q
    → is_ended f (after_newest f (reopened f q) (items id)) ≡ true
none_open_if f r rows items id q ih false e n c d h = absurd (cc)
none_open_if f r rows items id q ih true e n true d h =
    let same : r.0 ≡ id = grind (arith, nat_tests) in
    let row : r.1 ≡ q = grind (arith) in
    subst (λ (i : ℕ). is_ended f (after_newest f (reopened f q) (items i)) ≡ true) same
    (subst (λ (q : Row). is_ended f (after_newest f (reopened f q) (items r.0)) ≡ true) row e)
none_open_if f r rows items id q ih true e n false d h = ih n h

none_open : (f : Flow) (rows : List (ℕ × Row)) (items : ℕ → List Item) (id : ℕ) (q : Row) → first_unfinished f rows items ≡ None → look id rows ≡ Some q →
    is_ended f (after_newest f (reopened f q) (items id)) ≡ true
none_open f [] items id q n h = absurd (cc)
none_open f (r ∷ rows) items id q n h = none_open_if f r rows items id q (none_open f rows items id q)
    (is_ended f (after_newest f (reopened f r.1) (items r.0))) refl n (r.0 == id) refl h

-- once all is recovered, no journalled transaction has a row
gone_at : (f : Flow) (o : Option Row) (b : Bool) (items : List Item) → ((q : Row) → o ≡ Some q → is_ended f (after_newest f (reopened f q) items) ≡ true) →
    ((q : Row) → o ≡ Some q → is_ended f (reopened f q) ≡ true → b ≡ true) → old_row f o b items ≡ None
gone_at f None b items h c = refl
gone_at f (Some q) true items h c = refl
gone_at f (Some q) false [] h c = absurd (let x = c q refl (h q refl) in cc)
gone_at f (Some q) false (x ∷ xs) h c = row_unended f (after_newest f (reopened f q) (x ∷ xs))
    ∙ ap (λ (b : Bool). if b then None else Some (as_row f (after_newest f (reopened f q) (x ∷ xs)))) (h q refl)

pub old_gone : (f : Flow) (v : Start) (past : List Event) (id : ℕ) → IsLawful f v past → recovering f v past ≡ None →
    length (to_close f v.view.rows) ≤ length past → id < v.view.next_id → row_at f v past id ≡ None
old_gone f v past id law none done lt =
    let yes : nat_lt id v.view.next_id ≡ true = grind (arith, nat_tests) in
    let gone : old_row f (look id v.view.rows) (is_closed past id) (own_items f v past id) ≡ None =
    gone_at f (look id v.view.rows) (is_closed past id) (own_items f v past id) (λ q h. none_open f v.view.rows (own_items f v past) id q none h)
    (λ q h over. let w = close_in f v.view.rows id q h over in let in_list = slice_get_within (to_close f v.view.rows) w.0 id w.1 in
    closed_all f v past w.0 id law (omega arith) w.1) in
    by (nat_lt id v.view.next_id) yes gone
  where
    by : (b : Bool) → b ≡ true → old_row f (look id v.view.rows) (is_closed past id) (own_items f v past id) ≡ None →
        (if b then old_row f (look id v.view.rows) (is_closed past id) (own_items f v past id) else row f (state_of f v past id)) ≡ None
    by true e g = g
    by false e g = absurd (cc)

-- before the first take

length_keyed : {A B : Type 0} (m : ℕ) (o : Option A) (p : Option B) → (p ≡ None → o ≡ None) → length (keyed m o) ≤ length (keyed m p)
length_keyed m None p h = omega arith
length_keyed m (Some x) None h = absurd (let e = h refl in cc)
length_keyed m (Some x) (Some y) h = omega arith

gather_fewer : {A B : Type 0} (g : ℕ → Option A) (h : ℕ → Option B) (n k : ℕ) → ((j : ℕ) → n ≤ j → j < n + k → h j ≡ None → g j ≡ None) →
    length (gather g n k) ≤ length (gather h n k)
gather_fewer g h n zero e = omega arith
gather_fewer g h n (suc k) e =
    omega (
      arith,
      gather_fewer g h n k (λ j a b. e j a (omega arith)),
      length_keyed (n + k) (g (n + k)) (h (n + k)) (e (n + k) (omega arith) (omega arith)),
      length-append (gather g n k) (keyed (n + k) (g (n + k))),
      length-append (gather h n k) (keyed (n + k) (h (n + k))),
    )

none_if : (f : Flow) (o : Option Row) (b : Bool) (items : List Item) (c : Bool) (st : TxState) → c ≡ true → o ≡ None →
    (if c then old_row f o b items else row f st) ≡ None
none_if f None b items true st e h = refl
none_if f (Some r) b items true st e h = absurd (cc)
none_if f o b items false st e h = absurd (cc)

few_before : (f : Flow) (v : Start) (past : List Event) → IsOk v.view → takes past ≡ 0 → length (journal f v past).rows ≤ 16
few_before f v past ok none =
    let n = ok.ordered.next in
    let all : 1 + ids v past ≡ v.view.next_id = omega arith in
    let same : gather (λ id. look id v.view.rows) 1 (ids v past) ≡ v.view.rows =
    gather_look v.view.rows 1 (ids v past) (subst (λ (m : ℕ). Rising 1 m v.view.rows) (sym all) ok.ordered.rows) in
    let less = gather_fewer (row_at f v past) (λ id. look id v.view.rows) 1 (ids v past)
    (λ j a b h. let lt : nat_lt j v.view.next_id ≡ true = (let l : j < v.view.next_id = omega arith in grind (arith, nat_tests)) in
    none_if f (look j v.view.rows) (is_closed past j) (own_items f v past j) (nat_lt j v.view.next_id) (state_of f v past j) lt h) in
    let few = ok.few in
    let long : length (gather (λ id. look id v.view.rows) 1 (ids v past)) ≡ length v.view.rows = ap length same in
    omega arith

-- after it

pub record Taker (v : Start) (past : List Event) (n j : ℕ) : Type 0 where
  pub session : ℕ
  pub within : session < n
  pub took : taken v past session ≡ Some j

pub held_some : (f : Flow) (v : Start) (past : List Event) (s j : ℕ) → recovering f v past ≡ None → taken v past s ≡ Some j →
    is_ended f (state_of f v past j) ≡ false → holds f v past s ≡ Some j
held_some f v past s j none h u =
    let who : serves f v past s ≡ Some j = by (s == 0) (recovering f v past) none in
    ap (held_of f v past) who ∙ rw u refl
  where
    by : (b : Bool) (o : Option ℕ) → o ≡ None → (if b then or_taken o (taken v past s) else taken v past s) ≡ Some j
    by true None e = h
    by true (Some k) e = absurd (cc)
    by false o e = h

taker_gave : (f : Flow) (v : Start) (past : List Event) (e : Event) (id n j : ℕ) (x : Item) → Gave f v past e id x →
    is_ended f (state_of f v past id) ≡ false → ((s : ℕ) → taken v (e ∷ past) s ≡ taken v past s)
    → is_ended f (state_of f v (e ∷ past) j) ≡ false → (is_ended f (state_of f v past j) ≡ false → Taker v past n j) → Taker v (e ∷ past) n j
taker_gave f v past e id n j x g u same h ih = by (j == id) refl
  where
    more : Taker v past n j → Taker v (e ∷ past) n j
    more w = record { session = w.session; within = w.within; took = same w.session ∙ w.took }

    by : (b : Bool) → (j == id) ≡ b → Taker v (e ∷ past) n j
    by true z = let eq : j ≡ id = grind (arith, nat_tests) in more (ih (subst (λ (i : ℕ). is_ended f (state_of f v past i) ≡ false) (sym eq) u))
    by false z = let differ : j ≢ id = grind (arith, nat_tests) in
        more (ih (subst (λ (s : TxState). is_ended f s ≡ false) (state_other f v past e id x j g differ) h))

taker_taken : (f : Flow) (v : Start) (past : List Event) (t n j : ℕ) → IsAccepted f v past (Taken t) → t < n →
    (is_ended f (state_of f v past j) ≡ false → j < next_id v past → Taker v past n j)
    → j < next_id v past + 1 → (b : Bool) → (j == next_id v past) ≡ b → (b ≡ false → is_ended f (state_of f v past j) ≡ false) → Taker v (Taken t ∷ past) n j
taker_taken f v past t n j acc lt ih below true e u =
    let same : next_id v past ≡ j = grind (arith, nat_tests) in
    let self : (t == t) ≡ true = grind (arith, nat_tests) in
    record { session = t; within = lt; took = rw self (ap Some same) }
taker_taken f v past t n j acc lt ih below false e u =
    let differ : j ≢ next_id v past = grind (arith, nat_tests) in
    let w = ih (u refl) (omega arith) in
    let other : (t == w.session) ≡ false = apart w (t == w.session) refl in
    record { session = w.session; within = w.within; took = rw other w.took }
  where
    apart : (w : Taker v past n j) (b : Bool) → (t == w.session) ≡ b → (t == w.session) ≡ false
    apart w false z = z
    apart w true z =
        let same : t ≡ w.session = grind (arith, nat_tests) in
        let session_state : holds f v past t ≡ Some j = held_some f v past t j acc.0 (ap (taken v past) same ∙ w.took) (u refl) in
        absurd (let free = acc.1 in cc)

pub taker : (f : Flow) (v : Start) (past : List Event) (n j : ℕ) → IsOrdered v.view → AreSessions n past → IsLawful f v past → v.view.next_id ≤ j →
    j < next_id v past → is_ended f (state_of f v past j) ≡ false → Taker v past n j
taker f v [] n j o ss law lo hi u = absurd (omega arith)
taker f v (Taken t ∷ past) n j o ss law lo hi u =
    taker_taken f v past t n j law.0 ss.0 (λ w l. taker f v past n j o ss.1 law.2 lo l w) (omega arith) (j == next_id v past) refl (λ e. u)
taker f v (Offered c ∷ past) n j o ss law lo hi u =
    let w = taker f v past n j o ss law.2 lo hi (subst (λ (s : TxState). is_ended f s ≡ false) (state_more f v past c j o law.2 hi) u) in
    record { session = w.session; within = w.within; took = w.took }
taker f v (Released ∷ past) n j o ss law lo hi u =
    let w = taker f v past n j o ss law.2 lo hi (subst (λ (s : TxState). is_ended f s ≡ false) (state_released f v past j o law.2 hi) u) in
    record { session = w.session; within = w.within; took = w.took }
taker f v (Answered t b x ∷ past) n j o ss law lo hi u =
    let w = holds_serves f v past t law.0.0 law.0.1 in
    taker_gave f v past (Answered t b x) law.0.0 n j (Answer b x) (gave_answered f v past t b x law.0.0 w.0) w.1 (λ s. refl) u
    (λ i. taker f v past n j o ss law.2 lo hi i)
taker f v (Chose t x ∷ past) n j o ss law lo hi u =
    let w = holds_serves f v past t law.0.0 law.0.1 in
    taker_gave f v past (Chose t x) law.0.0 n j (Choice x) (gave_chose f v past t x law.0.0 w.0) w.1 (λ s. refl) u (λ i. taker f v past n j o ss law.2 lo hi i)
taker f v (Told t x ∷ past) n j o ss law lo hi u =
    let w = holds_serves f v past t law.0.0 law.0.1 in
    taker_gave f v past (Told t x) law.0.0 n j (ToldOne x) (gave_told f v past t x law.0.0 w.0) w.1 (λ s. refl) u (λ i. taker f v past n j o ss law.2 lo hi i)
taker f v (Recovered t x ∷ past) n j o ss law lo hi u = let w = taker f v past n j o ss law.2 lo hi u in
    record { session = w.session; within = w.within; took = w.took }
taker f v (Acked k m ∷ past) n j o ss law lo hi u = let w = taker f v past n j o ss law.2 lo hi u in
    record { session = w.session; within = w.within; took = w.took }
taker f v (Broke p ∷ past) n j o ss law lo hi u = let w = taker f v past n j o ss law.2 lo hi u in
    record { session = w.session; within = w.within; took = w.took }
taker f v (Cleared p ∷ past) n j o ss law lo hi u = let w = taker f v past n j o ss law.2 lo hi u in
    record { session = w.session; within = w.within; took = w.took }
taker f v (LetGo t ∷ past) n j o ss law lo hi u = let w = taker f v past n j o ss law.2 lo hi u in
    record { session = w.session; within = w.within; took = w.took }
taker f v (Closed k ∷ past) n j o ss law lo hi u = let w = taker f v past n j o ss law.2 lo hi u in
    record { session = w.session; within = w.within; took = w.took }

-- no more things than holes, when each has a hole of its own

abbrev cut : {A : Type 0} → ℕ → List (ℕ × A) → List (ℕ × A)
cut k [] = []
cut k (x ∷ xs) = if x.0 == k then xs else x ∷ cut k xs

cut_length : {A : Type 0} (k : ℕ) (xs : List (ℕ × A)) → length xs ≤ length (cut k xs) + 1
cut_length k [] = omega arith
cut_length k (x ∷ xs) = by (x.0 == k) (cut_length k xs)
  where
    by : (b : Bool) → length xs ≤ length (cut k xs) + 1 → length (x ∷ xs) ≤ length (if b then xs else x ∷ cut k xs) + 1
    by true h = omega arith
    by false h = omega arith

lower_from : {A : Type 0} (n l m : ℕ) (xs : List (ℕ × A)) → l ≤ n → l ≤ m → Rising n m xs → Rising l m xs
lower_from n l m [] le lm h = lm
lower_from n l m (x ∷ xs) le lm h = (let a = h.0 in omega arith, h.1, h.2)

rising_within : {A : Type 0} (n m : ℕ) (xs : List (ℕ × A)) → Rising n m xs → n ≤ m
rising_within n m [] h = h
rising_within n m (x ∷ xs) h = let a = h.0 in let b = h.1 in omega arith

cut_rising : {A : Type 0} (k n m : ℕ) (xs : List (ℕ × A)) → Rising n m xs → Rising n m (cut k xs)
cut_rising k n m [] h = h
cut_rising k n m (x ∷ xs) h = by (x.0 == k) (cut_rising k (x.0 + 1) m xs h.2)
  where
    by : (b : Bool) → Rising (x.0 + 1) m (cut k xs) → Rising n m (if b then xs else x ∷ cut k xs)
    by true r = let a = h.0 in let b = h.1 in lower_from (x.0 + 1) n m xs (omega arith) (omega arith) h.2
    by false r = (h.0, h.1, r)

pub record Kept {A : Type 0} (k j : ℕ) (xs : List (ℕ × A)) (y : A) : Type 0 where
  pub there : look j xs ≡ Some y
  pub other : j ≢ k

cut_look_if : {A : Type 0} (k j n m : ℕ) (x : ℕ × A) (xs : List (ℕ × A)) (y : A) → Rising n m (x ∷ xs) → (look j (cut k xs) ≡ Some y → Kept k j xs y) →
    (b c : Bool) → (x.0 == k) ≡ b → (x.0 == j) ≡ c
    → look j (if b then xs else x ∷ cut k xs) ≡ Some y → Kept k j (x ∷ xs) y
cut_look_if k j n m x xs y r ih true c e d h =
    let same : x.0 ≡ k = grind (arith, nat_tests) in
    let w = look_within xs (x.0 + 1) m j y r.2 h in
    let lo = w.0 in
    let no : (x.0 == j) ≡ false = grind (arith, nat_tests) in
    record { there = rw no h; other = λ z. omega arith }
cut_look_if k j n m x xs y r ih false true e d h =
    let same : x.0 ≡ j = grind (arith, nat_tests) in
    let differ : x.0 ≢ k = grind (arith, nat_tests) in
    let first : Some x.1 ≡ Some y = subst (λ (b : Bool). (if b then Some x.1 else look j (cut k xs)) ≡ Some y) d h in
    record { there = rw d first; other = λ z. differ (omega arith) }
cut_look_if k j n m x xs y r ih false false e d h =
    let rest : look j (cut k xs) ≡ Some y = subst (λ (b : Bool). (if b then Some x.1 else look j (cut k xs)) ≡ Some y) d h in
    let w = ih rest in
    record { there = rw d w.there; other = w.other }

cut_look : {A : Type 0} (k j n m : ℕ) (xs : List (ℕ × A)) (y : A) → Rising n m xs → look j (cut k xs) ≡ Some y → Kept k j xs y
cut_look k j n m [] y r h = absurd (cc)
cut_look k j n m (x ∷ xs) y r h = cut_look_if k j n m x xs y r (cut_look k j (x.0 + 1) m xs y r.2) (x.0 == k) (x.0 == j) refl refl h

pub record Holder (F : ℕ → Option ℕ) (n j : ℕ) : Type 0 where
  pub session : ℕ
  pub within : session < n
  pub has : F session ≡ Some j

fewer_none : (F : ℕ → Option ℕ) (n j : ℕ) → F n ≡ None → Holder F (suc n) j → Holder F n j
fewer_none F n j e w = by (w.session == n) refl
  where
    by : (b : Bool) → (w.session == n) ≡ b → Holder F n j
    by true z = let s : w.session ≡ n = grind (arith, nat_tests) in absurd (let h = w.has in let k = ap F s in cc)
    by false z = let d : w.session ≢ n = grind (arith, nat_tests) in let l = w.within in record { session = w.session; within = omega arith; has = w.has }

fewer_some : (F : ℕ → Option ℕ) (n j k : ℕ) → F n ≡ Some k → j ≢ k → Holder F (suc n) j → Holder F n j
fewer_some F n j k e d w = by (w.session == n) refl
  where
    by : (b : Bool) → (w.session == n) ≡ b → Holder F n j
    by true z = let s : w.session ≡ n = grind (arith, nat_tests) in absurd (let h = w.has in let i = ap F s in let same : Some j ≡ Some k =
        sym h ∙ (i ∙ e) in let eq : j ≡ k = grind (arith) in d eq)
    by false z = let d : w.session ≢ n = grind (arith, nat_tests) in let l = w.within in record { session = w.session; within = omega arith; has = w.has }

holes_if : {A : Type 0} (F : ℕ → Option ℕ) (n lo hi : ℕ) (xs : List (ℕ × A)) → Rising lo hi xs → ((j : ℕ) (x : A) → look j xs ≡ Some x → Holder F (suc n) j)
    → ((ys : List (ℕ × A)) → Rising lo hi ys → ((j : ℕ) (x : A) → look j ys ≡ Some x → Holder F n j) → length ys ≤ n) → (o : Option ℕ) → F n ≡ o →
    length xs ≤ suc n
holes_if F n lo hi xs r h ih None e = let l = ih xs r (λ j x i. fewer_none F n j e (h j x i)) in omega arith
holes_if F n lo hi xs r h ih (Some k) e =
    let l = ih (cut k xs) (cut_rising k lo hi xs r) (λ j x i. let w = cut_look k j lo hi xs x r i in fewer_some F n j k e w.other (h j x w.there)) in
    let m = cut_length k xs in
    omega arith

pub holes : {A : Type 0} (F : ℕ → Option ℕ) (n lo hi : ℕ) (xs : List (ℕ × A)) → Rising lo hi xs → ((j : ℕ) (x : A) → look j xs ≡ Some x → Holder F n j) →
    length xs ≤ n
holes F zero lo hi [] r h = omega arith
holes F zero lo hi (x ∷ xs) r h =
    let self : (x.0 == x.0) ≡ true = grind (arith, nat_tests) in
    let w = h x.0 x.1 (rw self refl) in
    let l = w.within in
    absurd (omega arith)
holes F (suc n) lo hi xs r h = holes_if F n lo hi xs r h (λ ys. holes F n lo hi ys) (F n) refl

row_open_if : (f : Flow) (v : Start) (past : List Event) (j : ℕ) (r : Row) → row_at f v past j ≡ Some r → (b : Bool) → nat_lt j v.view.next_id ≡ b →
    (b ≡ true → row_at f v past j ≡ None) → (v.view.next_id ≤ j) × (is_ended f (state_of f v past j) ≡ false)
row_open_if f v past j r h true e gone = absurd (let g = gone refl in cc)
row_open_if f v past j r h false e gone =
    let le : v.view.next_id ≤ j = grind (arith, nat_tests) in
    let new : row f (state_of f v past j) ≡ Some r = subst (λ (b : Bool).
    (if b then old_row f (look j v.view.rows) (is_closed past j) (own_items f v past j) else row f (state_of f v past j)) ≡ Some r) e h in
    (le, (row_some f (state_of f v past j) r new).0)

few_after : (f : Flow) (v : Start) (past : List Event) (n : ℕ) → IsOrdered v.view → AreSessions n past → IsLawful f v past → recovering f v past ≡ None →
    0 < takes past → length (journal f v past).rows ≤ n
few_after f v past n o ss law none lt =
    let first = o.next in
    let done = closings_done f v past law lt in
    holes (taken v past) n 1 (1 + ids v past) (gather (row_at f v past) 1 (ids v past)) (rising_gather (row_at f v past) 1 (ids v past))
    (λ j r h. let w = look_gather (row_at f v past) 1 (ids v past) j r h in
    let below = w.below in
    let u = row_open_if f v past j r w.is (nat_lt j v.view.next_id) refl (λ e. let l : j < v.view.next_id = grind (arith, nat_tests) in
    old_gone f v past j law none done l) in
    let t = taker f v past n j o ss law u.0 (omega arith) u.1 in
    record { session = t.session; within = t.within; has = t.took })

few_if : (f : Flow) (v : Start) (past : List Event) (n : ℕ) → IsOk v.view → n ≤ 16 → AreSessions n past → IsLawful f v past → (o : Option ℕ) →
    recovering f v past ≡ o → (b : Bool) → nat_lt 0 (takes past) ≡ b → length (journal f v past).rows ≤ 16
few_if f v past n ok most ss law (Some id) e b z = few_before f v past ok (recovered_first f v past id ok.ordered law e)
few_if f v past n ok most ss law None e true z = let lt : 0 < takes past = grind (arith, nat_tests) in let l =
    few_after f v past n ok.ordered ss law e lt in omega arith
few_if f v past n ok most ss law None e false z = let none : takes past ≡ 0 = grind (arith, nat_tests) in few_before f v past ok none

-- the whole

pub journal_ok : (f : Flow) (v : Start) (past : List Event) (n : ℕ) → FlowFits f → StartFits f v → n ≤ 16 → AreSessions n past → AreSpelled past →
    IsLawful f v past → IsOk (journal f v past)
journal_ok f v past n fits st most ss sp law =
    let g = good f v past fits st sp law in
    let o = st.view.ordered in
    let first = o.next in
    record {
      ordered = journal_ordered f v past o;
      last = ids_last f v past st.view.last law;
      few = few_if f v past n st.view most ss law (recovering f v past) refl (nat_lt 0 (takes past)) refl;
      rows = λ id r h. (let w = look_gather (row_at f v past) 1 (ids v past) id r h in let b = w.below in
          row_at_fits f v past id r fits st g (omega arith) w.is);
      shelf = λ id x h. (let w = look_gather (shelved_at f v (arrivals f v past) past) 1 (ids v past) id x h in let b = w.below in
          shelf_fits f v past id x st g (omega arith) w.is);
      advices = advices_rise f v past fits st sp law;
    }
