-- Lists of values under rising keys.
use Rattle.std.specs.Prelude.{ℕ, ◌+◌, ◌<◌, ◌≤◌, Bool, ◌==◌, ◌&&◌, ◌||◌, suc, zero, List, [], ◌∷◌, ◌++◌, filter, Option, Some, None, nat_lt, if◌then◌else◌}
use Rattle.std.specs.Ordering.{nat_cmp, ordering_then}
use Rattle.std.specs.declared.cmp.Ordering.{Ordering}

-- a value under its key, or nothing
abbrev pub keyed : {K A : Type 0} → K → Option A → List (K × A)
keyed key None = []
keyed key (Some x) = (key, x) ∷ []

-- what h gives at the ids n, n + 1, .., k of them, each under its id
abbrev pub gather : {A : Type 0} → (ℕ → Option A) → ℕ → ℕ → List (ℕ × A)
gather h n zero = []
gather h n (suc k) = gather h n k ++ keyed (n + k) (h (n + k))

-- the value under a key
abbrev pub look : {A : Type 0} → ℕ → List (ℕ × A) → Option A
look id [] = None
look id (x ∷ xs) = if x.0 == id then Some x.1 else look id xs

-- the list with only x under the key, or with nothing there
abbrev pub put_by : {K A : Type 0} → (K → K → Bool) → K → Option A → List (K × A) → List (K × A)
put_by lt key x xs = filter (λ p. lt p.0 key) xs ++ keyed key x ++ filter (λ p. lt key p.0) xs

-- the same with a number as the key
abbrev pub put_at : {A : Type 0} → ℕ → Option A → List (ℕ × A) → List (ℕ × A)
put_at id x xs = put_by nat_lt id x xs

-- a member's place in a transaction: first by the transaction, then by the place
abbrev pub place_lt : ℕ × ℕ → ℕ × ℕ → Bool
place_lt a b = nat_lt a.0 b.0 || ((a.0 == b.0) && nat_lt a.1 b.1)

-- and as it compares keys of a map
abbrev pub place_cmp : ℕ × ℕ → ℕ × ℕ → Ordering
place_cmp a b = ordering_then (nat_cmp a.0 b.0) (nat_cmp a.1 b.1)

abbrev pub same_place : ℕ × ℕ → ℕ × ℕ → Bool
same_place a b = (a.0 == b.0) && (a.1 == b.1)

-- the keys rise, from n on and below m
abbrev pub Rising : {A : Type 0} → ℕ → ℕ → List (ℕ × A) → Type 0
Rising n m [] = n ≤ m
Rising n m (x ∷ xs) = (n ≤ x.0) × (x.0 < m) × Rising (x.0 + 1) m xs

-- what a change puts, if anything
abbrev pub put_some : {A : Type 0} → Option (ℕ × Option A) → List (ℕ × A) → List (ℕ × A)
put_some None xs = xs
put_some (Some change) xs = put_at change.0 change.1 xs

-- the same where a change never drops what stands there
abbrev pub put_new : {A : Type 0} → Option (ℕ × A) → List (ℕ × A) → List (ℕ × A)
put_new None xs = xs
put_new (Some change) xs = put_at change.0 (Some change.1) xs

-- and with a member's place as the key
abbrev pub put_place : {A : Type 0} → Option ((ℕ × ℕ) × Option A) → List ((ℕ × ℕ) × A) → List ((ℕ × ℕ) × A)
put_place None xs = xs
put_place (Some change) xs = put_by place_lt change.0 change.1 xs
