-- What is found under an id: in one list after another, and in a list that was gathered.
-- for: laws::journals_agree of outcome_history, laws::entries_fit of journal_store
use Rattle.std.proofs.Common.{◌≡◌, ℕ, zero, suc, ◌+◌, ◌<◌, ◌≤◌, Bool, true, false, List, [], ◌∷◌, ◌++◌, Option, Some, None, refl, ◌∙◌, arith}
use Rattle.std.specs.Prelude.{if◌then◌else◌, ◌==◌}
use Rattle.std.proofs.lemmas.Bool.Decides.{nat_tests}
use Rattle.tx_history.specs.Keys.{gather, keyed, look}
use Rattle.tx_history.proofs.SoundJournals.{look_gather}

look_last : {A : Type 0} (m : ℕ) (o : Option A) → look m (keyed m o) ≡ o
look_last m None = refl
look_last m (Some x) = let yes : (m == m) ≡ true = grind (arith, nat_tests) in rw yes refl

look_first : {A : Type 0} (id : ℕ) (xs ys : List (ℕ × A)) (x : A) → look id xs ≡ Some x → look id (xs ++ ys) ≡ Some x
look_first id [] ys x h = absurd (cc)
look_first id (y ∷ xs) ys x h = by (y.0 == id) h (look_first id xs ys x)
  where
    by : (b : Bool) → (if b then Some y.1 else look id xs) ≡ Some x → (look id xs ≡ Some x → look id (xs ++ ys) ≡ Some x) →
        (if b then Some y.1 else look id (xs ++ ys)) ≡ Some x
    by true h ih = h
    by false h ih = ih h

look_after : {A : Type 0} (id : ℕ) (xs ys : List (ℕ × A)) → look id xs ≡ None → look id (xs ++ ys) ≡ look id ys
look_after id [] ys h = refl
look_after id (y ∷ xs) ys h = by (y.0 == id) h (look_after id xs ys)
  where
    by : (b : Bool) → (if b then Some y.1 else look id xs) ≡ None → (look id xs ≡ None → look id (xs ++ ys) ≡ look id ys) →
        (if b then Some y.1 else look id (xs ++ ys)) ≡ look id ys
    by true h ih = absurd (cc)
    by false h ih = ih h

not_in : {A : Type 0} (h : ℕ → Option A) (n k id : ℕ) → (n ≤ id → id < n + k → ⊥) → (o : Option A) → look id (gather h n k) ≡ o → o ≡ None
not_in h n k id out None e = refl
not_in h n k id out (Some x) e = absurd (let w = look_gather h n k id x e in out w.from w.below)

pub gathered_not : {A : Type 0} (h : ℕ → Option A) (n k id : ℕ) → (n ≤ id → id < n + k → ⊥) → look id (gather h n k) ≡ None
gathered_not h n k id out = not_in h n k id out (look id (gather h n k)) refl

-- at its end, and before it
last_at : {A : Type 0} (h : ℕ → Option A) (n k id : ℕ) → id ≡ n + k → look id (gather h n (suc k)) ≡ h id
last_at h n k id same = rw same (look_after (n + k) (gather h n k) (keyed (n + k) (h (n + k))) (gathered_not h n k (n + k) (λ a b. omega arith))
    ∙ look_last (n + k) (h (n + k)))

other_last : {A : Type 0} (m id : ℕ) (o : Option A) → id < m → look id (keyed m o) ≡ None
other_last m id None less = refl
other_last m id (Some x) less = let other : (m == id) ≡ false = grind (arith, nat_tests) in rw other refl

before_last : {A : Type 0} (h : ℕ → Option A) (n k id : ℕ) → id < n + k → (o : Option A) → look id (gather h n k) ≡ o → look id (gather h n (suc k)) ≡ o
before_last h n k id less None e = look_after id (gather h n k) (keyed (n + k) (h (n + k))) e ∙ other_last (n + k) id (h (n + k)) less
before_last h n k id less (Some x) e = look_first id (gather h n k) (keyed (n + k) (h (n + k))) x e

gathered_if : {A : Type 0} (h : ℕ → Option A) (n k id : ℕ) → id < n + suc k → (id < n + k → look id (gather h n k) ≡ h id) → (b : Bool) →
    (id == n + k) ≡ b → look id (gather h n (suc k)) ≡ h id
gathered_if h n k id hi ih true e = let same : id ≡ n + k = grind (arith, nat_tests) in last_at h n k id same
gathered_if h n k id hi ih false e = let less : id < n + k = grind (arith, nat_tests) in before_last h n k id less (h id) (ih less)

pub gathered_at : {A : Type 0} (h : ℕ → Option A) (n k id : ℕ) → n ≤ id → id < n + k → look id (gather h n k) ≡ h id
gathered_at h n zero id lo hi = absurd (omega arith)
gathered_at h n (suc k) id lo hi = gathered_if h n k id hi (λ less. gathered_at h n k id lo less) (id == n + k) refl
