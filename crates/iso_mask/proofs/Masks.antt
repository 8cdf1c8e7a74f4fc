-- A mask depends only on what is not masked.
-- for: laws::masked_numbers_hide
use Rattle.std.proofs.Common.{◌≡◌, ◌∙◌, ◌<◌, ◌-◌, inl, inr, ℕ, cond, ltb, List, ◌++◌, length, take, drop, refl, ap}
use Rattle.std.specs.Prelude.{replicate}
use Rattle.std.proofs.lemmas.Bool.{lt-ltb}
use Rattle.iso_mask.specs.Masks.{AgreesNumber, masked_number}

abbrev both_ends : ℕ → List ℕ → List ℕ → List ℕ
both_ends n first last = cond (ltb n 11) (replicate n 42) (first ++ (replicate (n - 10) 42 ++ last))

few_digits : (n : ℕ) (a b c d : List ℕ) → n < 11 → both_ends n a b ≡ both_ends n c d
few_digits n a b c d h = rw (lt-ltb n 11 h) refl

pub number_same : (v w : List ℕ) → AgreesNumber v w → masked_number v ≡ masked_number w
number_same v w h =
    elim h.1 [
      | inl few ↦
          few_digits (length v) (take 6 v) (drop (length v - 4) v) (take 6 w) (drop (length w - 4) w) few
          ∙ ap (λ n. both_ends n (take 6 w) (drop (length w - 4) w)) h.0
      | inr ends ↦
          ap (λ (l : List ℕ). both_ends (length v) l (drop (length v - 4) v)) ends.0
          ∙ ap (λ (l : List ℕ). both_ends (length v) (take 6 w) l) ends.1
          ∙ ap (λ n. both_ends n (take 6 w) (drop (length w - 4) w)) h.0
    ]
