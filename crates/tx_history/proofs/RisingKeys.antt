-- Lists under rising keys: gathering, looking up and putting.
-- for: laws::changes_lead_on
use Rattle.std.proofs.Common.{◌≡◌, ◌≢◌, ℕ, ◌+◌, ◌-◌, ◌<◌, ◌≤◌, Bool, true, false, List, [], ◌∷◌, ◌++◌, length, Option, Some, None, refl, sym, ◌∙◌, ap, subst}
use Rattle.std.proofs.Common.{arith, suc, zero, drop, filter, append_assoc, append-nil}
use Rattle.std.specs.Prelude.{if◌then◌else◌, slice_get, ◌==◌, nat_lt}
use Rattle.std.proofs.lemmas.Bool.Decides.{nat_tests}
use Rattle.tx_history.specs.Keys.{keyed, gather, look, put_at, Rising}

pub gather_same : {A : Type 0} (h g : ℕ → Option A) (n k : ℕ) → ((j : ℕ) → n ≤ j → j < n + k → h j ≡ g j) → gather h n k ≡ gather g n k
gather_same h g n zero same = refl
gather_same h g n (suc k) same =
    let last : h (n + k) ≡ g (n + k) = same (n + k) (omega arith) (omega arith) in
    rw (gather_same h g n k (λ j a b. same j a (omega arith)), last) refl

pub filter_append : {A : Type 0} (p : A → Bool) (xs ys : List A) → filter p (xs ++ ys) ≡ filter p xs ++ filter p ys
filter_append p [] ys = refl
filter_append p (x ∷ xs) ys = grind (arith, filter_append p xs ys)

keyed_low : {A : Type 0} (id j : ℕ) (o : Option A) → j < id → filter (λ p. nat_lt p.0 id) (keyed j o) ≡ keyed j o
keyed_low id j None h = refl
keyed_low id j (Some x) h = let t : nat_lt j id ≡ true = grind (arith, nat_tests) in rw t refl

keyed_not_low : {A : Type 0} (id j : ℕ) (o : Option A) → id ≤ j → filter (λ p. nat_lt p.0 id) (keyed j o) ≡ []
keyed_not_low id j None h = refl
keyed_not_low id j (Some x) h = let t : nat_lt j id ≡ false = grind (arith, nat_tests) in rw t refl

keyed_high : {A : Type 0} (id j : ℕ) (o : Option A) → id < j → filter (λ p. nat_lt id p.0) (keyed j o) ≡ keyed j o
keyed_high id j None h = refl
keyed_high id j (Some x) h = let t : nat_lt id j ≡ true = grind (arith, nat_tests) in rw t refl

keyed_not_high : {A : Type 0} (id j : ℕ) (o : Option A) → j ≤ id → filter (λ p. nat_lt id p.0) (keyed j o) ≡ []
keyed_not_high id j None h = refl
keyed_not_high id j (Some x) h = let t : nat_lt id j ≡ false = grind (arith, nat_tests) in rw t refl

pub gather_low : {A : Type 0} (h : ℕ → Option A) (n k id : ℕ) → n + k ≤ id → filter (λ p. nat_lt p.0 id) (gather h n k) ≡ gather h n k
gather_low h n zero id le = refl
gather_low h n (suc k) id le = rw (
  filter_append (λ p. nat_lt p.0 id) (gather h n k) (keyed (n + k) (h (n + k))),
  gather_low h n k id (omega arith),
  keyed_low id (n + k) (h (n + k)) (omega arith),
) refl

pub gather_not_high : {A : Type 0} (h : ℕ → Option A) (n k id : ℕ) → n + k ≤ id + 1 → filter (λ p. nat_lt id p.0) (gather h n k) ≡ []
gather_not_high h n zero id le = refl
gather_not_high h n (suc k) id le = rw (
  filter_append (λ p. nat_lt id p.0) (gather h n k) (keyed (n + k) (h (n + k))),
  gather_not_high h n k id (omega arith),
  keyed_not_high id (n + k) (h (n + k)) (omega arith),
) refl

-- a new id, above all others
pub put_end : {A : Type 0} (h g : ℕ → Option A) (n k : ℕ) → ((j : ℕ) → n ≤ j → j < n + k → h j ≡ g j) →
    put_at (n + k) (g (n + k)) (gather h n k) ≡ gather g n (suc k)
put_end h g n k same = rw (gather_low h n k (n + k) (omega arith), gather_not_high h n k (n + k) (omega arith), append-nil, gather_same h g n k same) refl

put_before : {A : Type 0} (id j : ℕ) (x o : Option A) (xs : List (ℕ × A)) → id < j → put_at id x (xs ++ keyed j o) ≡ put_at id x xs ++ keyed j o
put_before id j x o xs lt =
    rw (
      filter_append (λ p. nat_lt p.0 id) xs (keyed j o),
      filter_append (λ p. nat_lt id p.0) xs (keyed j o),
      keyed_not_low id j o (omega arith),
      keyed_high id j o lt,
      append-nil,
    )
    (sym (append_assoc (filter (λ p. nat_lt p.0 id) xs ++ keyed id x) (filter (λ p. nat_lt id p.0) xs) (keyed j o)))

put_over : {A : Type 0} (id : ℕ) (x o : Option A) (xs : List (ℕ × A)) → put_at id x (xs ++ keyed id o) ≡ put_at id x xs
put_over id x o xs =
    rw (
      filter_append (λ p. nat_lt p.0 id) xs (keyed id o),
      filter_append (λ p. nat_lt id p.0) xs (keyed id o),
      keyed_not_low id id o (omega arith),
      keyed_not_high id id o (omega arith),
      append-nil,
      append-nil,
    ) refl

-- an id that is there
put_gather_if : {A : Type 0} (h g : ℕ → Option A) (n k id : ℕ) → n ≤ id → id < n + suc k → ((j : ℕ) → n ≤ j → j < n + suc k → j ≢ id → h j ≡ g j)
    → (n ≤ id → id < n + k → ((j : ℕ) → n ≤ j → j < n + k → j ≢ id → h j ≡ g j) → put_at id (g id) (gather h n k) ≡ gather g n k)
    → (b : Bool) → nat_lt id (n + k) ≡ b → put_at id (g id) (gather h n k ++ keyed (n + k) (h (n + k))) ≡ gather g n k ++ keyed (n + k) (g (n + k))
put_gather_if h g n k id le lt same ih true e =
    let low : id < n + k = grind (arith, nat_tests) in
    let last : h (n + k) ≡ g (n + k) = same (n + k) (omega arith) (omega arith) (omega arith) in
    rw (put_before id (n + k) (g id) (h (n + k)) (gather h n k) low, ih le low (λ j a b. same j a (omega arith)), last) refl
put_gather_if h g n k id le lt same ih false e =
    let here : n + k ≡ id = grind (arith, nat_tests) in
    let P : ℕ → Type 0 = λ i. put_at i (g i) (gather h n k ++ keyed (n + k) (h (n + k))) ≡ gather g n k ++ keyed (n + k) (g (n + k)) in
    subst P here (put_over (n + k) (g (n + k)) (h (n + k)) (gather h n k) ∙ put_end h g n k (λ j a b. same j a (omega arith) (omega arith)))

pub put_gather : {A : Type 0} (h g : ℕ → Option A) (n k id : ℕ) → n ≤ id → id < n + k → ((j : ℕ) → n ≤ j → j < n + k → j ≢ id → h j ≡ g j) →
    put_at id (g id) (gather h n k) ≡ gather g n k
put_gather h g n zero id le lt same = absurd (omega arith)
put_gather h g n (suc k) id le lt same = put_gather_if h g n k id le lt same (put_gather h g n k id) (nat_lt id (n + k)) refl

pub all_same : {A : Type 0} (h g : ℕ → Option A) (id j : ℕ) (b : Bool) → h id ≡ g id → (j == id) ≡ b → (j ≢ id → h j ≡ g j) → h j ≡ g j
all_same h g id j true here e other = let same : j ≡ id = grind (arith, nat_tests) in subst (λ (i : ℕ). h i ≡ g i) (sym same) here
all_same h g id j false here e other = let differ : j ≢ id = grind (arith, nat_tests) in other differ

pub gather_none : {A : Type 0} (h : ℕ → Option A) (n k : ℕ) → ((j : ℕ) → n ≤ j → j < n + k → h j ≡ None) → gather h n k ≡ []
gather_none h n zero e = refl
gather_none h n (suc k) e =
    let last : h (n + k) ≡ None = e (n + k) (omega arith) (omega arith) in
    rw (gather_none h n k (λ j a b. e j a (omega arith)), last) refl

-- nothing under an id: the list is as without it
pub put_none : {A : Type 0} (h g : ℕ → Option A) (n k id : ℕ) → n ≤ id → id < n + k → h id ≡ None → ((j : ℕ) → n ≤ j → j < n + k → j ≢ id → h j ≡ g j) →
    (o : Option A) → o ≡ g id
    → (o ≡ None → gather h n k ≡ gather g n k)
put_none h g n k id le lt none same o is e = gather_same h g n k (λ j a b. all_same h g id j (j == id) (none ∙ (sym e ∙ is)) refl (same j a b))

pub get_append : {A : Type 0} → (xs ys : List A) (k : ℕ) → k < length xs → slice_get (xs ++ ys) k ≡ slice_get xs k
get_append [] ys k h = absurd (omega arith)
get_append (x ∷ xs) ys zero h = refl
get_append (x ∷ xs) ys (suc k) h = get_append xs ys k (omega arith)

pub get_drop : {A : Type 0} (n : ℕ) (xs : List A) → slice_get (drop n xs) 0 ≡ slice_get xs n
get_drop zero xs = refl
get_drop (suc n) [] = refl
get_drop (suc n) (x ∷ xs) = get_drop n xs

-- a list whose keys rise is what looking up in it gathers
pub look_below : {A : Type 0} (xs : List (ℕ × A)) (n m id : ℕ) → Rising n m xs → id < n → look id xs ≡ None
look_below [] n m id rise lt = refl
look_below (x ∷ xs) n m id rise lt =
    let no : (x.0 == id) ≡ false = let l = rise.0 in grind (arith, nat_tests) in
    let l = rise.0 in
    rw no (look_below xs (x.0 + 1) m id rise.2 (omega arith))

pub gather_more : {A : Type 0} (h : ℕ → Option A) (n a b : ℕ) → gather h n (a + b) ≡ gather h n a ++ gather h (n + a) b
gather_more h n a zero = let e : a + 0 ≡ a = omega arith in rw (e, append-nil) refl
gather_more h n a (suc b) =
    let e : n + (a + b) ≡ n + a + b = omega arith in
    let s : a + suc b ≡ suc (a + b) = omega arith in
    rw s (rw (gather_more h n a b, e) (append_assoc (gather h n a) (gather h (n + a) b) (keyed (n + a + b) (h (n + a + b)))))

pub gather_look : {A : Type 0} (xs : List (ℕ × A)) (n k : ℕ) → Rising n (n + k) xs → gather (λ id. look id xs) n k ≡ xs
gather_look [] n k rise = gather_none (λ id. look id []) n k (λ j a b. refl)
gather_look (x ∷ xs) n k rise =
    let lo : n ≤ x.0 = rise.0 in
    let hi : x.0 < n + k = rise.1 in
    let a : ℕ = x.0 - n in
    let b : ℕ = k - a - 1 in
    let split : k ≡ a + (1 + b) = omega arith in
    let at : n + a ≡ x.0 = omega arith in
    let end : n + k ≡ x.0 + 1 + b = omega arith in
    let low : gather (λ id. look id (x ∷ xs)) n a ≡ [] = gather_none (λ id. look id (x ∷ xs)) n a
    (λ j c d. let no : (x.0 == j) ≡ false = grind (arith, nat_tests) in rw no (look_below xs (x.0 + 1) (n + k) j rise.2 (omega arith))) in
    let yes : (x.0 == x.0) ≡ true = grind (arith, nat_tests) in
    let high : gather (λ id. look id (x ∷ xs)) (x.0 + 1) b ≡ gather (λ id. look id xs) (x.0 + 1) b =
    gather_same (λ id. look id (x ∷ xs)) (λ id. look id xs) (x.0 + 1) b
    (λ j c d. let no : (x.0 == j) ≡ false = grind (arith, nat_tests) in rw no refl) in
    let rest : gather (λ id. look id xs) (x.0 + 1) b ≡ xs = gather_look xs (x.0 + 1) b (subst (λ (m : ℕ). Rising (x.0 + 1) m xs) end rise.2) in
    let one : gather (λ id. look id (x ∷ xs)) x.0 1 ≡ x ∷ [] = let z : x.0 + 0 ≡ x.0 = omega arith in rw (z, yes) refl in
    ap (λ (i : ℕ). gather (λ id. look id (x ∷ xs)) n i) split
    ∙ (gather_more (λ id. look id (x ∷ xs)) n a (1 + b)
    ∙ (rw (low, at) (gather_more (λ id. look id (x ∷ xs)) x.0 1 b ∙ rw (one, high, rest) refl)))

-- the key of what is found is among the rising ones
look_within_if : {A : Type 0} (y : ℕ × A) (xs : List (ℕ × A)) (n m id : ℕ) (x : A) → Rising n m (y ∷ xs) → look id (y ∷ xs) ≡ Some x
    → (look id xs ≡ Some x → (y.0 + 1 ≤ id) × (id < m)) → (b : Bool) → (y.0 == id) ≡ b → (n ≤ id) × (id < m)
look_within_if y xs n m id x rise h ih true e = let same : y.0 ≡ id = grind (arith, nat_tests) in let a = rise.0 in let b = rise.1 in
    (omega arith, omega arith)
look_within_if y xs n m id x rise h ih false e =
    let rest : look id xs ≡ Some x = subst (λ (b : Bool). (if b then Some y.1 else look id xs) ≡ Some x) e h in
    let w = ih rest in
    let a = rise.0 in let lo = w.0 in (omega arith, w.1)

pub look_within : {A : Type 0} (xs : List (ℕ × A)) (n m id : ℕ) (x : A) → Rising n m xs → look id xs ≡ Some x → (n ≤ id) × (id < m)
look_within [] n m id x rise h = absurd (cc)
look_within (y ∷ xs) n m id x rise h = look_within_if y xs n m id x rise h (look_within xs (y.0 + 1) m id x rise.2) (y.0 == id) refl

pub look_other : {A : Type 0} (x : ℕ × A) (xs : List (ℕ × A)) (m id : ℕ) (y : A) → Rising (x.0 + 1) m xs → look id xs ≡ Some y → look id (x ∷ xs) ≡ Some y
look_other x xs m id y rise h =
    let w = (look_within xs (x.0 + 1) m id y rise h).0 in
    let no : (x.0 == id) ≡ false = grind (arith, nat_tests) in
    rw no h
