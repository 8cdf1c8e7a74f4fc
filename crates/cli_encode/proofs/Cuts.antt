-- Bytes before and after a mark.
-- for: cut, line
use Rattle.std.proofs.Common.{◌≡◌, ◌∙◌, ◌<◌, ◌+◌, ◌-◌, ◌==◌, ◌||◌, ℕ, Bool, true, false, not, cond, List, [], ◌∷◌, ◌++◌, length, take, drop}
use Rattle.std.proofs.Common.{get_or, refl, sym, ap, subst, arith}
use Rattle.std.proofs.Math.Numerals.{one-add}
use Rattle.std.proofs.lemmas.Bool.{eqb-true, eqb-false}
use Rattle.std.proofs.lemmas.Slice.Eq.{bytes_eq-Decides}
use Rattle.std.specs.Str.{bytes_eq}
use Rattle.std.proofs.lemmas.List.{take_all, take_rest}
use Rattle.std.proofs.lemmas.List.Folds.{list_any-append}
use Rattle.std.proofs.lemmas.List.Sums.{split_at_first, passes_at_first}
use Rattle.std.specs.List.{after_first, before_first, position_or_len, list_any}
use Rattle.cli_encode.specs.Lines.{has_byte}

pub none_before : (p : ℕ → Bool) (xs : List ℕ) → list_any p (take (position_or_len p xs) xs) ≡ false
none_before p [] = refl
none_before p (x ∷ xs) = by (p x) refl (none_before p xs)
  where
    by : (b : Bool) → p x ≡ b → list_any p (take (position_or_len p xs) xs) ≡ false → list_any p (take (position_or_len p (x ∷ xs)) (x ∷ xs)) ≡ false
    by true e h = ap (λ b. list_any p (take (cond (not b) (1 + position_or_len p xs) 0) (x ∷ xs))) e
    by false e h =
        ap (λ b. list_any p (take (cond (not b) (1 + position_or_len p xs) 0) (x ∷ xs))) e
        ∙ ap (λ n. list_any p (take n (x ∷ xs))) (one-add (position_or_len p xs))
        ∙ ap (λ b. b || list_any p (take (position_or_len p xs) xs)) e ∙ h

-- where the index is the length, there is no mark
pub none_at_all : (c : ℕ) (xs : List ℕ) (end : ℕ) → end ≡ position_or_len (λ b. b == c) xs → end ≡ length xs → has_byte c xs ≡ false
none_at_all c xs end index last =
    subst (λ (l : List ℕ). has_byte c l ≡ false) (take_all (position_or_len (λ b. b == c) xs) xs (omega (arith, index, last))) (none_before (λ b. b == c) xs)

pub parts_are : (c : ℕ) (xs : List ℕ) (end : ℕ) → end ≡ position_or_len (λ b. b == c) xs → end < length xs
    → (take end xs ++ c ∷ take (length xs - (end + 1)) (drop (end + 1) xs) ≡ xs) × (has_byte c (take end xs) ≡ false)
parts_are c xs end index within =
    let p = λ (b : ℕ). b == c in
    let inside : position_or_len p xs < length xs = omega (arith, index, within) in
    let here : get_or xs (position_or_len p xs) 0 ≡ c = eqb-true _ c (passes_at_first p xs 0 inside) in
    let whole = split_at_first p xs 0 inside in (
      ap (λ k. take k xs ++ c ∷ take (length xs - (k + 1)) (drop (k + 1) xs)) index
          ∙ ap (λ (l : List ℕ). before_first p xs ++ c ∷ l) (take_rest xs (position_or_len p xs + 1))
          ∙ ap (λ b. before_first p xs ++ b ∷ after_first p xs) (sym here)
          ∙ sym whole,
      subst (λ k. has_byte c (take k xs) ≡ false) (sym index) (none_before p xs),
    )

-- ---- a mark is where it is

pub no_byte_head : (c x : ℕ) (xs : List ℕ) → has_byte c (x ∷ xs) ≡ false → (x ≡ c → ⊥) × (has_byte c xs ≡ false)
no_byte_head c x xs h = by (x == c) refl h
  where
    by : (b : Bool) → (x == c) ≡ b → (b || has_byte c xs) ≡ false → (x ≡ c → ⊥) × (has_byte c xs ≡ false)
    by true e k = absurd cc
    by false e k = (eqb-false x c e, k)

pub head_is : (x y : ℕ) (xs ys : List ℕ) → x ∷ xs ≡ y ∷ ys → x ≡ y
head_is x y xs ys e = cc

pub tail_is : (x y : ℕ) (xs ys : List ℕ) → x ∷ xs ≡ y ∷ ys → xs ≡ ys
tail_is x y xs ys e = cc

pub cut_once : (c : ℕ) (xs ys a b : List ℕ) → has_byte c xs ≡ false → has_byte c ys ≡ false → xs ++ c ∷ a ≡ ys ++ c ∷ b → (xs ≡ ys) × (a ≡ b)
cut_once c [] [] a b h k e = (refl, tail_is c c a b e)
cut_once c [] (y ∷ ys) a b h k e = absurd ((no_byte_head c y ys k).0 (sym (head_is c y a (ys ++ c ∷ b) e)))
cut_once c (x ∷ xs) [] a b h k e = absurd ((no_byte_head c x xs h).0 (head_is x c (xs ++ c ∷ a) b e))
cut_once c (x ∷ xs) (y ∷ ys) a b h k e =
    let same : x ≡ y = head_is x y (xs ++ c ∷ a) (ys ++ c ∷ b) e in
    let rest = cut_once c xs ys a b (no_byte_head c x xs h).1 (no_byte_head c y ys k).1 (tail_is x y (xs ++ c ∷ a) (ys ++ c ∷ b) e) in
    let whole : x ∷ xs ≡ y ∷ ys = ap (λ n. n ∷ xs) same ∙ ap (λ (l : List ℕ). y ∷ l) rest.0 in (whole, rest.1)

-- bytes with the mark among them have it
pub mark_within : (c : ℕ) (xs ys : List ℕ) → has_byte c (xs ++ c ∷ ys) ≡ false → ⊥
mark_within c [] ys h = (no_byte_head c c ys h).0 refl
mark_within c (x ∷ xs) ys h = mark_within c xs ys (no_byte_head c x (xs ++ c ∷ ys) h).1

pub or_none : (a b : Bool) → (a || b) ≡ false → (a ≡ false) × (b ≡ false)
or_none true b e = absurd cc
or_none false b e = (refl, e)

pub none_in_parts : (c : ℕ) (xs ys : List ℕ) → has_byte c (xs ++ ys) ≡ false → (has_byte c xs ≡ false) × (has_byte c ys ≡ false)
none_in_parts c xs ys h = or_none (has_byte c xs) (has_byte c ys) (sym (list_any-append (λ b. b == c) xs ys) ∙ h)

pub none_in_both : (c : ℕ) (xs ys : List ℕ) → has_byte c xs ≡ false → has_byte c ys ≡ false → has_byte c (xs ++ ys) ≡ false
none_in_both c xs ys h k = list_any-append (λ b. b == c) xs ys ∙ ap (λ b. b || has_byte c ys) h ∙ k

-- ---- a front

pub front_of : (front rest : List ℕ) → take (length front) (front ++ rest) ≡ front
front_of [] rest = refl
front_of (x ∷ xs) rest = ap (λ (l : List ℕ). x ∷ l) (front_of xs rest)

pub front_cancels : (front xs ys : List ℕ) → front ++ xs ≡ front ++ ys → xs ≡ ys
front_cancels [] xs ys e = e
front_cancels (f ∷ fs) xs ys e = front_cancels fs xs ys (tail_is f f (fs ++ xs) (fs ++ ys) e)

pub not_front : (front rest bytes first : List ℕ) (b : Bool) → first ≡ take (length front) bytes → b ≡ bytes_eq first front → b ≡ false →
    front ++ rest ≡ bytes → ⊥
not_front front rest bytes first b p e h k =
    let same : first ≡ front = p ∙ ap (take (length front)) (sym k) ∙ front_of front rest in
    let yes : bytes_eq first front ≡ true = (bytes_eq-Decides first front).1 same in
    let no_ : bytes_eq first front ≡ false = sym e ∙ h in cc

pub is_front : (front rest bytes first : List ℕ) (b : Bool) → first ++ rest ≡ bytes → b ≡ bytes_eq first front → b ≡ true → front ++ rest ≡ bytes
is_front front rest bytes first b p e h = ap (λ l. l ++ rest) (sym ((bytes_eq-Decides first front).0 (sym e ∙ h))) ∙ p
