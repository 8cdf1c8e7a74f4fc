-- Lists with the same items at all indices.
-- for: context::Context::is_same
use Rattle.std.proofs.Common.{◌≡◌, ◌<◌, ℕ, suc, zero, List, [], ◌∷◌, length, Some, ap, refl, arith}
use Rattle.std.specs.Prelude.{slice_get}

pub same_by_places : {A : Type 0} (xs ys : List A) → length xs ≡ length ys → ((i : ℕ) → i < length xs → slice_get xs i ≡ slice_get ys i) → xs ≡ ys
same_by_places [] [] n h = refl
same_by_places [] (y ∷ ys) n h = absurd (cc)
same_by_places (x ∷ xs) [] n h = absurd (cc)
same_by_places (x ∷ xs) (y ∷ ys) n h = both (h 0 (omega arith)) (same_by_places xs ys (omega (arith, n)) (λ i k. h (suc i) (omega (arith, k))))
  where
    both : slice_get (x ∷ xs) 0 ≡ slice_get (y ∷ ys) 0 → xs ≡ ys → x ∷ xs ≡ y ∷ ys
    both e f = cc (e, f)
