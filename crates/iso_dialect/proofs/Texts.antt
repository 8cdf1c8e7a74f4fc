-- Steps of loops over characters.
-- for: packed::push_digits, read::push_chars, read::read_packed
use Rattle.std.proofs.Common.{◌≡◌, ◌∙◌, ℕ, arith, ◌*◌, ◌+◌, ◌<◌, ◌≤◌, List, [], ◌∷◌, ◌++◌, length, get_or, drop, Option, Some, None, refl, sym, ap}
use Rattle.std.proofs.Common.{append_assoc}
use Rattle.std.proofs.lemmas.List.{drop_more, drop_all, append-nil}
use Rattle.iso_codec.specs.Digits.{both}
use Rattle.iso_codec.specs.Reads.{put_before}
use Rattle.std.specs.List.{flat_map}
use Rattle.iso_dialect.specs.Codings.{each, halves}

with_char : (c : ℕ) (front : List ℕ) (o : Option ℕ) (r : Option (List ℕ)) → o ≡ Some c
    → put_before front (both (λ c cs. c ∷ cs) o r) ≡ put_before (front ++ c ∷ []) r
with_char c front o None e = rw e refl
with_char c front o (Some cs) e = rw e (ap Some (sym (append_assoc front (c ∷ []) cs)))

pub each_step : (f : ℕ → Option ℕ) (xs front : List ℕ) (i c : ℕ) (total : Option (List ℕ)) → i < length xs → f (get_or xs i 0) ≡ Some c
    → put_before front (each f (drop i xs)) ≡ total → put_before (front ++ c ∷ []) (each f (drop (i + 1) xs)) ≡ total
each_step f xs front i c total h e so_far =
    sym (with_char c front (f (get_or xs i 0)) (each f (drop (i + 1) xs)) e)
    ∙ sym (ap (λ (x : List ℕ). put_before front (each f x)) (drop_more xs i 0 h)) ∙ so_far

pub each_none : (f : ℕ → Option ℕ) (xs front : List ℕ) (i : ℕ) (total : Option (List ℕ)) → i < length xs → f (get_or xs i 0) ≡ None
    → put_before front (each f (drop i xs)) ≡ total → None ≡ total
each_none f xs front i total h e so_far =
    sym (ap (λ (o : Option ℕ). put_before front (both (λ c cs. c ∷ cs) o (each f (drop (i + 1) xs)))) e)
    ∙ sym (ap (λ (x : List ℕ). put_before front (each f x)) (drop_more xs i 0 h)) ∙ so_far

pub each_end : (f : ℕ → Option ℕ) (xs front : List ℕ) (i : ℕ) (total : Option (List ℕ)) → length xs ≤ i
    → put_before front (each f (drop i xs)) ≡ total → Some front ≡ total
each_end f xs front i total h so_far =
    ap Some (sym (append-nil front)) ∙ sym (ap (λ (x : List ℕ). put_before front (each f x)) (drop_all i xs h)) ∙ so_far

pub halves_length : (bytes : List ℕ) → length (flat_map halves bytes) ≡ 2 * length bytes
halves_length [] = refl
halves_length (b ∷ bytes) = omega (arith, halves_length bytes)
