-- The first item of a box that passes a test, and the others.
-- for: backlog::Backlog
use Rattle.std.proofs.Common.{◌≡◌, ℕ, suc, ◌<◌, ◌≤◌, Bool, true, false, List, [], ◌∷◌, length, Option, Some, None, refl, sym, ap, arith, get_or}
use Rattle.std.proofs.Common.{◌∙◌, IfSome, IsSome}
use Rattle.std.specs.Prelude.{IfNone, IsTrue, OnSome}
use Rattle.std.specs.Prelude.{if◌then◌else◌, is_some, slice_get}
use Rattle.std.proofs.Common.{inl, inr}
use Rattle.std.proofs.lemmas.Option.{slice_get_cases}
use Rattle.std.specs.List.{remove}
use Rattle.sw_wire.specs.Boxes.{first_of, place_of, without_first}

given_step : {A : Type 0} (b : Bool) (x d : A) (xs : List A) (n : ℕ) (o : Option A) → (n < length xs → o ≡ Some (get_or xs n d))
    → (if b then 0 else (suc n)) < length (x ∷ xs) → (if b then Some x else o) ≡ Some (get_or (x ∷ xs) (if b then 0 else (suc n)) d)
given_step true x d xs n o h l = refl
given_step false x d xs n o h l = h (omega (arith, l))

pub place_gives : {A : Type 0} (p : A → Bool) (xs : List A) (d : A) → place_of p xs < length xs → first_of p xs ≡ Some (get_or xs (place_of p xs) d)
place_gives p [] d l = absurd (omega (arith, l))
place_gives p (x ∷ xs) d l = given_step (p x) x d xs (place_of p xs) (first_of p xs) (place_gives p xs d) l

left_step : {A : Type 0} (b : Bool) (x : A) (xs ys : List A) (n : ℕ) → remove xs n ≡ ys
    → remove (x ∷ xs) (if b then 0 else (suc n)) ≡ (if b then xs else x ∷ ys)
left_step true x xs ys n h = refl
left_step false x xs ys n h = ap (λ l. x ∷ l) h

pub place_leaves : {A : Type 0} (p : A → Bool) (xs : List A) → remove xs (place_of p xs) ≡ without_first p xs
place_leaves p [] = refl
place_leaves p (x ∷ xs) = left_step (p x) x xs (without_first p xs) (place_of p xs) (place_leaves p xs)

absent_step : {A : Type 0} (b : Bool) (x : A) (n m : ℕ) (o : Option A) → (m ≤ n → o ≡ None)
    → suc m ≤ (if b then 0 else (suc n)) → (if b then Some x else o) ≡ None
absent_step true x n m o h l = absurd (omega (arith, l))
absent_step false x n m o h l = h (omega (arith, l))

kept_step : {A : Type 0} (b : Bool) (x : A) (xs ys : List A) (n m : ℕ) → (m ≤ n → ys ≡ xs)
    → suc m ≤ (if b then 0 else (suc n)) → (if b then xs else x ∷ ys) ≡ x ∷ xs
kept_step true x xs ys n m h l = absurd (omega (arith, l))
kept_step false x xs ys n m h l = ap (λ l. x ∷ l) (h (omega (arith, l)))

pub place_keeps : {A : Type 0} (p : A → Bool) (xs : List A) → length xs ≤ place_of p xs → without_first p xs ≡ xs
place_keeps p [] l = refl
place_keeps p (x ∷ xs) l = kept_step (p x) x xs (without_first p xs) (place_of p xs) (length xs) (place_keeps p xs) l

pub place_absent : {A : Type 0} (p : A → Bool) (xs : List A) → length xs ≤ place_of p xs → first_of p xs ≡ None
place_absent p [] l = refl
place_absent p (x ∷ xs) l = absent_step (p x) x (place_of p xs) (length xs) (first_of p xs) (place_absent p xs) l

got_step : {A : Type 0} (b : Bool) (x : A) (xs : List A) (n : ℕ) (o : Option A) → slice_get xs n ≡ o
    → slice_get (x ∷ xs) (if b then 0 else (suc n)) ≡ (if b then Some x else o)
got_step true x xs n o h = refl
got_step false x xs n o h = h

pub place_got : {A : Type 0} (p : A → Bool) (xs : List A) → slice_get xs (place_of p xs) ≡ first_of p xs
place_got p [] = refl
place_got p (x ∷ xs) = got_step (p x) x xs (place_of p xs) (first_of p xs) (place_got p xs)

-- whether something is looked at there, and what is taken out, where n is the number of all
pub place_shows : {A B : Type 0} (p : A → Bool) (zs xs : List A) (i n : ℕ) (r : Option B) → xs ≡ zs → i ≡ place_of p zs → n ≡ length xs
    → (IsSome r → i < n) → (i < n → IsSome r) → is_some r ≡ is_some (first_of p zs)
place_shows p zs xs i n None view e all below some =
    elim (slice_get_cases xs i).1 [
      | inl s ↦ absurd cc (some (omega (arith, s.1, all)))
      | inr s ↦ sym (ap is_some (place_absent p zs (omega (arith, s.0, e, ap length view))))
    ]
place_shows p zs xs i n (Some x) view e all below some =
    let given = place_got p zs in
    elim (slice_get_cases zs (place_of p zs)).1 [
      | inl s ↦ sym (ap is_some (sym given ∙ s.2))
      | inr s ↦ absurd (omega (arith, s.0, below refl, e, all, ap length view))
    ]

pub place_takes : {A : Type 0} (p : A → Bool) (zs xs : List A) (i n : ℕ) (r : Option A) → xs ≡ zs → i ≡ place_of p zs → n ≡ length xs
    → IfSome r (λ y. y ≡ get_or xs i y) → (IsSome r → i < n) → (i < n → IsSome r) → r ≡ first_of p zs
place_takes p zs xs i n None view e all v below some =
    elim (slice_get_cases xs i).1 [
      | inl s ↦ absurd cc (some (omega (arith, s.1, all)))
      | inr s ↦ sym (place_absent p zs (omega (arith, s.0, e, ap length view)))
    ]
place_takes p zs xs i n (Some y) view e all v below some =
    let given = place_gives p zs y (omega (arith, below refl, e, all, ap length view)) in
    cc (given, v, view, e)

pub place_left : {A : Type 0} (p : A → Bool) (zs xs ys : List A) (i n : ℕ) (r : Option A) → xs ≡ zs → i ≡ place_of p zs → n ≡ length xs
    → (i < n → IsSome r) → OnSome r (ys ≡ remove xs i) → IfNone r (ys ≡ xs) → ys ≡ without_first p zs
place_left p zs xs ys i n None view e all some taken same =
    elim (slice_get_cases xs i).1 [
      | inl s ↦ absurd cc (some (omega (arith, s.1, all)))
      | inr s ↦ same ∙ view ∙ sym (place_keeps p zs (omega (arith, s.0, e, ap length view)))
    ]
place_left p zs xs ys i n (Some y) view e all some taken same = cc (taken, view, e, place_leaves p zs)

pub none_gives : {A : Type 0} (r : Option A) (P Q : Type 0) → (P → Q) → IfNone r P → IfNone r Q
none_gives None P Q f h = f h
none_gives (Some x) P Q f h = tt

passes_step : {A : Type 0} (p : A → Bool) (b : Bool) (x : A) (o : Option A) → p x ≡ b → IfSome o (λ y. IsTrue (p y))
    → IfSome (if b then Some x else o) (λ y. IsTrue (p y))
passes_step p true x o e h = e
passes_step p false x o e h = h

pub first_passes : {A : Type 0} (p : A → Bool) (xs : List A) → IfSome (first_of p xs) (λ y. IsTrue (p y))
first_passes p [] = tt
first_passes p (x ∷ xs) = passes_step p (p x) x (first_of p xs) refl (first_passes p xs)
