-- The end of a line, and what follows it.
-- for: words::split_line
use Rattle.std.proofs.Common.{◌≡◌, ◌∙◌, ◌+◌, ◌-◌, ℕ, Bool, List, [], length, take, drop, ap, arith, sym}
use Rattle.std.proofs.Math.ListN.{drop_of_length-le}
use Rattle.std.proofs.lemmas.List.{take_all, take_rest}
use Rattle.std.specs.List.{after_first, before_first, position_or_len}

module _ {A : Type 0} (p : A → Bool) (xs : List A) (end : ℕ) (place : end ≡ position_or_len p xs) where
  pub before_end : take end xs ≡ before_first p xs
  before_end = ap (λ k. take k xs) place

  pub after_end : take (length xs - (end + 1)) (drop (end + 1) xs) ≡ after_first p xs
  after_end = take_rest xs (end + 1) ∙ ap (λ k. drop (k + 1) xs) place

  -- where the end is the list's, the list is the line, and nothing follows
  pub whole_line : end ≡ length xs → xs ≡ before_first p xs
  whole_line last = sym (take_all end xs (omega arith)) ∙ before_end

  pub nothing_after : end ≡ length xs → [] ≡ after_first p xs
  nothing_after last = sym (drop_of_length-le xs (omega arith)) ∙ ap (λ k. drop (k + 1) xs) place
