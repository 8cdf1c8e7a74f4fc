-- The entries of a context from an index on, and bytes that are shown as text.
-- for: shown::saved_text, shown::push_readable
use Rattle.std.proofs.Common.{◌≡◌, ◌∙◌, ◌+◌, ◌++◌, ◌∷◌, [], ℕ, zero, suc, ◌<◌, Bool, true, false, List, arith, drop, get_or, length, slice_get, refl, subst, sym}
use Rattle.std.proofs.lemmas.Bool.Decides.{nat_tests}
use Rattle.std.proofs.lemmas.List.Folds.{list_all_at}
use Rattle.std.specs.List.{flat_map, list_all}
use Rattle.cli_step.specs.Places.{is_readable}
use Rattle.std.specs.Option.{option_map_or}

next_shown : {A : Type 0} (f : A → List ℕ) (xs : List A) (i : ℕ)
    → option_map_or f (slice_get xs i) [] ++ flat_map f (drop (suc i) xs) ≡ flat_map f (drop i xs)
next_shown f [] zero = refl
next_shown f [] (suc i) = refl
next_shown f (x ∷ xs) zero = refl
next_shown f (x ∷ xs) (suc i) = next_shown f xs i

pub one_shown : {A : Type 0} (f : A → List ℕ) (xs : List A) (i : ℕ)
    → option_map_or f (slice_get xs i) [] ++ flat_map f (drop (i + 1) xs) ≡ flat_map f (drop i xs)
one_shown f xs i =
    let one : suc i ≡ i + 1 = omega arith in
    subst (λ k. option_map_or f (slice_get xs i) [] ++ flat_map f (drop k xs) ≡ flat_map f (drop i xs)) one (next_shown f xs i)

small : (b : ℕ) → is_readable b ≡ true → b < 128
small b readable = grind (arith, nat_tests)

by_test : (xs : List ℕ) (i : ℕ) (b : Bool) → is_readable (get_or xs i 0) ≡ b → list_all is_readable xs ≡ true → i < length xs → get_or xs i 0 < 128
by_test xs i true is all below = small (get_or xs i 0) is
by_test xs i false is all below = let both : true ≡ false = sym all ∙ list_all_at is_readable xs i 0 below is in cc

-- each byte of a value that is shown as text is ASCII
pub readable_byte : (xs : List ℕ) (i : ℕ) → list_all is_readable xs ≡ true → i < length xs → get_or xs i 0 < 128
readable_byte xs i all below = by_test xs i (is_readable (get_or xs i 0)) refl all below
