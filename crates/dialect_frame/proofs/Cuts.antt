-- What is left of two parts.
-- for: framer::first_message
use Rattle.std.proofs.Common.{◌≡◌, ◌∙◌, ap, sym, ℕ, ◌-◌, min, List, [], ◌∷◌, ◌++◌, length, drop, zero, suc, arith}
use Rattle.std.proofs.lemmas.Grind.{common_steps}

pub drop-parts : (xs ys : List ℕ) (n b : ℕ) → b ≡ min (length xs) n → drop n (xs ++ ys) ≡ drop b xs ++ drop (n - b) ys
drop-parts [] ys n b e = grind (arith, common_steps)
drop-parts (x ∷ xs) ys zero b e = grind (arith, common_steps)
drop-parts (x ∷ xs) ys (suc n) zero e = absurd (omega (arith, e))
drop-parts (x ∷ xs) ys (suc n) (suc b) e =
    let same : suc n - suc b ≡ n - b = omega arith in
    drop-parts xs ys n b (omega (arith, e)) ∙ ap (λ k. drop b xs ++ drop k ys) (sym same)
