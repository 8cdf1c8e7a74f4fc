-- The advices that a journal holds, by member's place.
-- for: laws::advices_by_place
use Rattle.std.proofs.Common.{◌≡◌, ℕ, Bool, true, false, List, [], ◌∷◌, ◌++◌, Option, Some, None, refl, ◌∙◌, ap, arith, filter}
use Rattle.std.specs.Prelude.{if◌then◌else◌}
use Rattle.std.proofs.lemmas.Bool.Decides.{nat_tests}
use Rattle.tx_history.specs.Keys.{keyed, put_by, place_lt, same_place}
use Rattle.outcome_history.specs.Looked.{advice_at}

abbrev Advice : Type 0
Advice = (ℕ × ℕ) × List ℕ

-- what stands under a place after a list was put together

abbrev or_else : Option (List ℕ) → Option (List ℕ) → Option (List ℕ)
or_else None o = o
or_else (Some a) o = Some a

append_if : (p : ℕ × ℕ) (x : Advice) (xs ys : List Advice) → advice_at p (xs ++ ys) ≡ or_else (advice_at p xs) (advice_at p ys) → (b : Bool) →
    (if b then Some x.1 else advice_at p (xs ++ ys)) ≡ or_else (if b then Some x.1 else advice_at p xs) (advice_at p ys)
append_if p x xs ys ih true = refl
append_if p x xs ys ih false = ih

at_append : (p : ℕ × ℕ) (xs ys : List Advice) → advice_at p (xs ++ ys) ≡ or_else (advice_at p xs) (advice_at p ys)
at_append p [] ys = refl
at_append p (x ∷ xs) ys = append_if p x xs ys (at_append p xs ys) (same_place x.0 p)

kept_if : (test : ℕ × ℕ → Bool) (p : ℕ × ℕ) (x : Advice) (xs : List Advice) → advice_at p (filter (λ (y : Advice). test y.0) xs) ≡ advice_at p xs →
    (b c : Bool) → same_place x.0 p ≡ b → test x.0 ≡ c → (b ≡ true → c ≡ true)
    → advice_at p (filter (λ (y : Advice). test y.0) (x ∷ xs)) ≡ advice_at p (x ∷ xs)
kept_if test p x xs ih true true s t h = rw (t, s) refl
kept_if test p x xs ih true false s t h = absurd (let w = h refl in cc)
kept_if test p x xs ih false true s t h = rw (t, s) ih
kept_if test p x xs ih false false s t h = rw (t, s) ih

at_kept : (test : ℕ × ℕ → Bool) (p : ℕ × ℕ) (xs : List Advice) → ((q : ℕ × ℕ) → same_place q p ≡ true → test q ≡ true) →
    advice_at p (filter (λ (y : Advice). test y.0) xs) ≡ advice_at p xs
at_kept test p [] h = refl
at_kept test p (x ∷ xs) h = kept_if test p x xs (at_kept test p xs h) (same_place x.0 p) (test x.0) refl refl (h x.0)

dropped_if : (test : ℕ × ℕ → Bool) (p : ℕ × ℕ) (x : Advice) (xs : List Advice) → advice_at p (filter (λ (y : Advice). test y.0) xs) ≡ None → (b c : Bool) →
    same_place x.0 p ≡ b → test x.0 ≡ c → (b ≡ true → c ≡ false)
    → advice_at p (filter (λ (y : Advice). test y.0) (x ∷ xs)) ≡ None
dropped_if test p x xs ih true true s t h = absurd (let w = h refl in cc)
dropped_if test p x xs ih b false s t h = rw t ih
dropped_if test p x xs ih false true s t h = rw (t, s) ih

at_dropped : (test : ℕ × ℕ → Bool) (p : ℕ × ℕ) (xs : List Advice) → ((q : ℕ × ℕ) → same_place q p ≡ true → test q ≡ false) →
    advice_at p (filter (λ (y : Advice). test y.0) xs) ≡ None
at_dropped test p [] h = refl
at_dropped test p (x ∷ xs) h = dropped_if test p x xs (at_dropped test p xs h) (same_place x.0 p) (test x.0) refl refl (h x.0)

keyed_same : (p k : ℕ × ℕ) (o : Option (List ℕ)) → same_place k p ≡ true → advice_at p (keyed k o) ≡ o
keyed_same p k None e = refl
keyed_same p k (Some a) e = rw e refl

keyed_other : (p k : ℕ × ℕ) (o : Option (List ℕ)) → same_place k p ≡ false → advice_at p (keyed k o) ≡ None
keyed_other p k None e = refl
keyed_other p k (Some a) e = rw e refl

-- places compared

low_same : (q p k : ℕ × ℕ) (b : Bool) → same_place q p ≡ true → place_lt p k ≡ b → place_lt q k ≡ b
low_same q p k b s h = let x : q.0 ≡ p.0 = grind (arith, nat_tests) in let y : q.1 ≡ p.1 = grind (arith, nat_tests) in rw (x, y) h

high_same : (q p k : ℕ × ℕ) (b : Bool) → same_place q p ≡ true → place_lt k p ≡ b → place_lt k q ≡ b
high_same q p k b s h = let x : q.0 ≡ p.0 = grind (arith, nat_tests) in let y : q.1 ≡ p.1 = grind (arith, nat_tests) in rw (x, y) h

or_none : (o : Option (List ℕ)) → or_else o None ≡ o
or_none None = refl
or_none (Some a) = refl

or_assoc : (a b c : Option (List ℕ)) → or_else (or_else a b) c ≡ or_else a (or_else b c)
or_assoc None b c = refl
or_assoc (Some x) b c = refl

put_parts : (p k : ℕ × ℕ) (o : Option (List ℕ)) (xs : List Advice) (a b c : Option (List ℕ)) → advice_at p (filter (λ (y : Advice). place_lt y.0 k) xs) ≡ a
    → advice_at p (keyed k o) ≡ b → advice_at p (filter (λ (y : Advice). place_lt k y.0) xs) ≡ c
    → advice_at p (put_by place_lt k o xs) ≡ or_else a (or_else b c)
put_parts p k o xs a b c e g h =
    at_append p (filter (λ (y : Advice). place_lt y.0 k) xs ++ keyed k o) (filter (λ (y : Advice). place_lt k y.0) xs)
    ∙ (ap (λ (l : Option (List ℕ)). or_else l (advice_at p (filter (λ (y : Advice). place_lt k y.0) xs)))
    (at_append p (filter (λ (y : Advice). place_lt y.0 k) xs) (keyed k o))
    ∙ (or_assoc (advice_at p (filter (λ (y : Advice). place_lt y.0 k) xs)) (advice_at p (keyed k o)) (advice_at p (filter (λ (y : Advice). place_lt k y.0) xs))
    ∙ (ap (λ (l : Option (List ℕ)). or_else l (or_else (advice_at p (keyed k o)) (advice_at p (filter (λ (y : Advice). place_lt k y.0) xs)))) e
    ∙ (ap (λ (l : Option (List ℕ)). or_else a (or_else l (advice_at p (filter (λ (y : Advice). place_lt k y.0) xs)))) g
    ∙ ap (λ (l : Option (List ℕ)). or_else a (or_else b l)) h))))

put_if : (p k : ℕ × ℕ) (o : Option (List ℕ)) (xs : List Advice) (s l : Bool) → same_place k p ≡ s → place_lt p k ≡ l →
    advice_at p (put_by place_lt k o xs) ≡ (if s then o else advice_at p xs)
put_if p k o xs true l e h =
    let low : place_lt p k ≡ false = grind (arith, nat_tests) in
    let high : place_lt k p ≡ false = grind (arith, nat_tests) in
    put_parts p k o xs None o None (at_dropped (λ q. place_lt q k) p xs (λ q w. low_same q p k false w low)) (keyed_same p k o e)
    (at_dropped (λ q. place_lt k q) p xs (λ q w. high_same q p k false w high))
    ∙ or_none o
put_if p k o xs false true e h =
    let high : place_lt k p ≡ false = grind (arith, nat_tests) in
    put_parts p k o xs (advice_at p xs) None None (at_kept (λ q. place_lt q k) p xs (λ q w. low_same q p k true w h)) (keyed_other p k o e)
    (at_dropped (λ q. place_lt k q) p xs (λ q w. high_same q p k false w high))
    ∙ or_none (advice_at p xs)
put_if p k o xs false false e h =
    let high : place_lt k p ≡ true = grind (arith, nat_tests) in
    put_parts p k o xs None None (advice_at p xs) (at_dropped (λ q. place_lt q k) p xs (λ q w. low_same q p k false w h)) (keyed_other p k o e)
    (at_kept (λ q. place_lt k q) p xs (λ q w. high_same q p k true w high))

-- what was put stands under its place, and everything else where it stood
pub put_at_place : (p k : ℕ × ℕ) (o : Option (List ℕ)) (xs : List Advice) →
    advice_at p (put_by place_lt k o xs) ≡ (if same_place k p then o else advice_at p xs)
put_at_place p k o xs = put_if p k o xs (same_place k p) (place_lt p k) refl refl
