-- How many contexts are on the shelf after an entry.
-- for: tracer::Tracer::follow
use Rattle.std.proofs.Common.{◌≡◌, ℕ, ◌+◌, ◌<◌, ◌≤◌, Bool, true, false, List, [], ◌∷◌, ◌++◌, length, filter, Option, Some, None, refl, sym, ◌∙◌, ap, subst}
use Rattle.std.proofs.Common.{arith, suc, zero, length-append}
use Rattle.std.specs.Prelude.{if◌then◌else◌, ◌==◌, nat_lt, is_some}
use Rattle.std.proofs.lemmas.Bool.Decides.{nat_tests}
use Rattle.flow_model.specs.declared.flow.Flow.{Flow}
use Rattle.tx_machine.specs.declared.values.Item.TheVariants.{Answer, Choice, Told as ToldOne}
use Rattle.tx_history.specs.declared.event.Event.{Event}
use Rattle.tx_history.specs.declared.event.Event.TheVariants.{Offered, Taken, Answered, Chose, Told, Recovered, Released, Acked, Broke, Cleared, LetGo, Closed}
use Rattle.tx_history.specs.declared.journal.WaitingContext.{WaitingContext}
use Rattle.tx_history.specs.declared.journal.JournalView.{JournalView}
use Rattle.tx_history.specs.Keys.{gather, keyed, look, put_new}
use Rattle.tx_history.specs.History.{Start, arrivals, ids, serves, shelf, shelved, shelved_at, state_of}
use Rattle.tx_history.specs.Journal.{IsLawful, change, shelved_change, touched}
use Rattle.tx_history.specs.Views.{IsOrdered}
use Rattle.tx_history.proofs.OwnItems.{holds_serves}
use Rattle.tx_history.proofs.GivenItems.{gave_answered, gave_chose, gave_told}
use Rattle.tx_history.proofs.Changes.{leads}
use Rattle.tx_history.proofs.SoundJournals.{ids_last}
use Rattle.tx_engine.proofs.Turns.{shelf_lacks}
use Rattle.tx_trace.specs.Follow.{shelved_after}

-- one more under a key that the list does not have

apart_count : {A : Type 0} (id : ℕ) (x : ℕ × A) (xs : List (ℕ × A)) → (x.0 == id) ≡ false →
    length (filter (λ (p : ℕ × A). nat_lt p.0 id) xs) + length (filter (λ (p : ℕ × A). nat_lt id p.0) xs) ≡ length xs
    → (b : Bool) → nat_lt x.0 id ≡ b → (c : Bool) → nat_lt id x.0 ≡ c →
    length (filter (λ (p : ℕ × A). nat_lt p.0 id) (x ∷ xs)) + length (filter (λ (p : ℕ × A). nat_lt id p.0) (x ∷ xs)) ≡ length xs + 1
apart_count id x xs differ ih true low true high = absurd (let a : x.0 < id = grind (arith, nat_tests) in let b : id < x.0 = grind (arith, nat_tests) in
    omega arith)
apart_count id x xs differ ih true low false high = rw (low, high) (omega arith)
apart_count id x xs differ ih false low true high = rw (low, high) (omega arith)
apart_count id x xs differ ih false low false high = absurd (let a : id ≤ x.0 = grind (arith, nat_tests) in let b : x.0 ≤ id = grind (arith, nat_tests) in
    let same : (x.0 == id) ≡ true = grind (arith, nat_tests) in cc)

lacks_head : {A : Type 0} (id : ℕ) (x : ℕ × A) (xs : List (ℕ × A)) (b : Bool) → (x.0 == id) ≡ b → (if b then Some x.1 else look id xs) ≡ None →
    ((x.0 == id) ≡ false) × (look id xs ≡ None)
lacks_head id x xs true e h = absurd (cc)
lacks_head id x xs false e h = (e, h)

sides_count : {A : Type 0} (id : ℕ) (xs : List (ℕ × A)) → look id xs ≡ None →
    length (filter (λ (p : ℕ × A). nat_lt p.0 id) xs) + length (filter (λ (p : ℕ × A). nat_lt id p.0) xs) ≡ length xs
sides_count id [] h = refl
sides_count id (x ∷ xs) h =
    let w = lacks_head id x xs (x.0 == id) refl h in
    let both = apart_count id x xs w.0 (sides_count id xs w.1) (nat_lt x.0 id) refl (nat_lt id x.0) refl in
    omega arith

pub put_count : (id : ℕ) (o : Option WaitingContext) (xs : List (ℕ × WaitingContext)) → look id xs ≡ None →
    length (put_new (shelved_change id o) xs) ≡ (if is_some (shelved_change id o) then length xs + 1 else length xs)
put_count id None xs h = refl
put_count id (Some w) xs h =
    let low : List (ℕ × WaitingContext) = filter (λ (p : ℕ × WaitingContext). nat_lt p.0 id) xs in
    let high : List (ℕ × WaitingContext) = filter (λ (p : ℕ × WaitingContext). nat_lt id p.0) xs in
    let is : length (put_new (shelved_change id (Some w)) xs) ≡ length ((low ++ (id, w) ∷ []) ++ high) = refl in
    let sum : length ((low ++ (id, w) ∷ []) ++ high) ≡ length (low ++ (id, w) ∷ []) + length high = length-append (low ++ (id, w) ∷ []) high in
    let one : length (low ++ (id, w) ∷ []) ≡ length low + 1 = length-append low ((id, w) ∷ []) in
    let sides : length low + length high ≡ length xs = sides_count id xs h in
    is ∙ (omega arith)

-- the shelf after an entry is what its change makes of it

shelf_led : (f : Flow) (v : Start) (past : List Event) (e : Event) → IsOrdered v.view → IsLawful f v (e ∷ past) →
    put_new (change f v (e ∷ past)).shelved (if (change f v (e ∷ past)).emptied then [] else shelf f v past) ≡ shelf f v (e ∷ past)
shelf_led f v past e o law = ap (λ (j : JournalView). j.shelf) (leads f v past e o law)

plain_count : (f : Flow) (v : Start) (past : List Event) (e : Event) → IsOrdered v.view → IsLawful f v (e ∷ past) → (change f v (e ∷ past)).shelved ≡ None →
    (change f v (e ∷ past)).emptied ≡ false
    → shelved_after (length (shelf f v past)) (change f v (e ∷ past)) ≡ length (shelf f v (e ∷ past))
plain_count f v past e o law none kept =
    let same : shelf f v past ≡ shelf f v (e ∷ past) = subst (λ (c : Option (ℕ × WaitingContext)). put_new c (shelf f v past) ≡ shelf f v (e ∷ past)) none
    (subst (λ (b : Bool). put_new (change f v (e ∷ past)).shelved (if b then [] else shelf f v past) ≡ shelf f v (e ∷ past)) kept
    (shelf_led f v past e o law)) in
    rw (none, kept) (ap (λ (xs : List (ℕ × WaitingContext)). length xs) same)

given_count : (f : Flow) (v : Start) (past : List Event) (e : Event) (id : ℕ) → IsOrdered v.view → IsLawful f v (e ∷ past) →
    look id (shelf f v past) ≡ None → (change f v (e ∷ past)).shelved ≡ shelved_change id (shelved f (state_of f v (e ∷ past) id) true) →
    (change f v (e ∷ past)).emptied ≡ false
    → shelved_after (length (shelf f v past)) (change f v (e ∷ past)) ≡ length (shelf f v (e ∷ past))
given_count f v past e id o law lacks is kept =
    let o2 : Option WaitingContext = shelved f (state_of f v (e ∷ past) id) true in
    let led : put_new (shelved_change id o2) (shelf f v past) ≡ shelf f v (e ∷ past) =
    subst (λ (c : Option (ℕ × WaitingContext)). put_new c (shelf f v past) ≡ shelf f v (e ∷ past)) is
    (subst (λ (b : Bool). put_new (change f v (e ∷ past)).shelved (if b then [] else shelf f v past) ≡ shelf f v (e ∷ past)) kept
    (shelf_led f v past e o law)) in
    rw (is, kept) (sym (put_count id o2 (shelf f v past) lacks) ∙ ap (λ (xs : List (ℕ × WaitingContext)). length xs) led)

touched_shelved : (f : Flow) (v : Start) (past : List Event) (a : Option ((ℕ × ℕ) × Option (List ℕ))) (s : Option ℕ) (id : ℕ) → s ≡ Some id →
    ((touched f v past a s).shelved ≡ shelved_change id (shelved f (state_of f v past id) true)) × ((touched f v past a s).emptied ≡ false)
touched_shelved f v past a s id h = (rw h refl, rw h refl)

pub shelf_count : (f : Flow) (v : Start) (past : List Event) (e : Event) → IsOrdered v.view → IsLawful f v (e ∷ past) →
    shelved_after (length (shelf f v past)) (change f v (e ∷ past)) ≡ length (shelf f v (e ∷ past))
shelf_count f v past (Offered c) o law = plain_count f v past (Offered c) o law refl refl
shelf_count f v past (Taken s) o law = plain_count f v past (Taken s) o law refl refl
shelf_count f v past (Answered s b c) o law =
    let id : ℕ = law.0.0 in
    let w = holds_serves f v past s id law.0.1 in
    let t = touched_shelved f v (Answered s b c ∷ past) None (serves f v past s) id w.0 in
    given_count f v past (Answered s b c) id o law (shelf_lacks f v past (Answered s b c) s id (Answer b c) o (gave_answered f v past s b c id w.0) w.0 w.1)
    t.0 t.1
shelf_count f v past (Chose s x) o law =
    let id : ℕ = law.0.0 in
    let w = holds_serves f v past s id law.0.1 in
    let t = touched_shelved f v (Chose s x ∷ past) None (serves f v past s) id w.0 in
    given_count f v past (Chose s x) id o law (shelf_lacks f v past (Chose s x) s id (Choice x) o (gave_chose f v past s x id w.0) w.0 w.1) t.0 t.1
shelf_count f v past (Told s a) o law =
    let id : ℕ = law.0.0 in
    let w = holds_serves f v past s id law.0.1 in
    let t = touched_shelved f v (Told s a ∷ past) _ (serves f v past s) id w.0 in
    given_count f v past (Told s a) id o law (shelf_lacks f v past (Told s a) s id (ToldOne a) o (gave_told f v past s a id w.0) w.0 w.1) t.0 t.1
shelf_count f v past (Recovered s c) o law = plain_count f v past (Recovered s c) o law refl refl
shelf_count f v past Released o law = ap (λ (xs : List (ℕ × WaitingContext)). length xs) (shelf_led f v past Released o law)
shelf_count f v past (Acked id n) o law = plain_count f v past (Acked id n) o law refl refl
shelf_count f v past (Broke p) o law = plain_count f v past (Broke p) o law refl refl
shelf_count f v past (Cleared p) o law = plain_count f v past (Cleared p) o law refl refl
shelf_count f v past (LetGo s) o law = plain_count f v past (LetGo s) o law refl refl
shelf_count f v past (Closed id) o law = plain_count f v past (Closed id) o law refl refl

-- there are at most as many as ids

keyed_count : {A : Type 0} (id : ℕ) (o : Option A) → length (keyed id o) ≤ 1
keyed_count id None = omega arith
keyed_count id (Some x) = omega arith

gather_count : {A : Type 0} (h : ℕ → Option A) (n k : ℕ) → length (gather h n k) ≤ k
gather_count h n zero = omega arith
gather_count h n (suc k) =
    let ih = gather_count h n k in
    let one = keyed_count (n + k) (h (n + k)) in
    let sum = length-append (gather h n k) (keyed (n + k) (h (n + k))) in
    omega arith

pub shelf_few : (f : Flow) (v : Start) (past : List Event) → v.view.next_id ≤ 9223372036854775807 → IsLawful f v past →
    length (shelf f v past) < 9223372036854775808
shelf_few f v past h law =
    let last = ids_last f v past h law in
    let few : length (shelf f v past) ≤ ids v past = gather_count (shelved_at f v (arrivals f v past) past) 1 (ids v past) in
    omega arith
