-- Where the first byte of some kind is, as `position` finds it, or the length if there is none.
-- for: cli_lines::feeds::line_end, cli_encode::cut::mark_index
use Rattle.std.proofs.Common.{◌≡◌, ◌≤◌, ℕ, Bool, List, Option, Some, None, length, unwrap_or, cond, nat_lt, arith}
use Rattle.std.proofs.lemmas.Bool.Decides.{nat_tests}
use Rattle.std.proofs.lemmas.List.Sums.{prefix_len-le-length}
use Rattle.std.specs.List.{position_or_len}

found_at : (n len : ℕ) → n ≤ len → unwrap_or (cond (nat_lt n len) (Some n) None) len ≡ n
found_at n len within = grind (arith, nat_tests)

pub end_found : {A : Type 0} (p : A → Bool) (xs : List A) (r : Option ℕ)
    → r ≡ cond (nat_lt (position_or_len p xs) (length xs)) (Some (position_or_len p xs)) None
    → unwrap_or r (length xs) ≡ position_or_len p xs
end_found p xs r found = rw found (found_at _ _ (prefix_len-le-length _ xs))

pub end_within : {A : Type 0} (p : A → Bool) (xs : List A) (end : ℕ) → end ≡ position_or_len p xs → end ≤ length xs
end_within p xs end place = rw place (prefix_len-le-length _ xs)
