-- The frames of the switch.
-- for: laws::own_frames_are_the_switchs
use Rattle.std.proofs.Common.{◌≡◌, ◌∙◌, ap, zero-add, ℕ, List, [], ◌∷◌, ◌++◌, length, Some, refl, arith}
use Rattle.cli_recode.specs.Streams.{OwnFramesAreTheSwitchs}

nothing : (xs : List ℕ) → length xs ≡ 0 → xs ≡ []
nothing [] e = refl
nothing (x ∷ xs) e = absurd (omega (arith, e))

pub own_frames : OwnFramesAreTheSwitchs
own_frames text message p =
    (p.0, p.2 ∙ ap (λ (z : List ℕ). p.0 ++ (z ++ message)) (nothing p.1 p.4), p.3.0, p.3.1 ∙ ap (λ (n : ℕ). Some n) (zero-add (length message)))
