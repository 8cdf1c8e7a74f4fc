-- Words, each after a space, one after the other.
-- for: typed::spaced
use Rattle.std.proofs.Common.{◌≡◌, ◌∙◌, ◌==◌, ◌++◌, ◌∷◌, [], ℕ, true, false, not, List, arith, length, ap, sym, append-nil, append_assoc}
use Rattle.std.proofs.lemmas.Grind.{common_steps, flat_map-append}
use Rattle.std.proofs.lemmas.List.Elements.{filter-append}
use Rattle.std.specs.List.{flat_map}
use Rattle.cli_step.specs.Typed.{spaced, words_among}

-- a part that is not empty is a word
one_word : (p : List ℕ) → (length p == 0) ≡ false → words_among (p ∷ []) ≡ p ∷ []
one_word p some = grind (arith, common_steps)

no_word : (p : List ℕ) → (length p == 0) ≡ true → words_among (p ∷ []) ≡ []
no_word p none = grind (arith, common_steps)

-- one part more
more : (parts : List (List ℕ)) (p : List ℕ) → spaced (parts ++ p ∷ []) ≡ spaced parts ++ flat_map (λ w. 32 ∷ w) (words_among (p ∷ []))
more parts p =
    ap (flat_map (λ w. 32 ∷ w)) (filter-append (λ w. not (length w == 0)) parts (p ∷ []))
    ∙ flat_map-append (λ w. 32 ∷ w) (words_among parts) (words_among (p ∷ []))

pub spaced_word : (parts : List (List ℕ)) (p : List ℕ) → (length p == 0) ≡ false → spaced (parts ++ p ∷ []) ≡ (spaced parts ++ 32 ∷ []) ++ p
spaced_word parts p some =
    more parts p ∙ ap (λ ws. spaced parts ++ flat_map (λ w. 32 ∷ w) ws) (one_word p some) ∙ ap (λ t. spaced parts ++ (32 ∷ t)) (append-nil p)
    ∙ sym (append_assoc (spaced parts) (32 ∷ []) p)

pub spaced_none : (parts : List (List ℕ)) (p : List ℕ) → (length p == 0) ≡ true → spaced (parts ++ p ∷ []) ≡ spaced parts
spaced_none parts p none =
    more parts p ∙ ap (λ ws. spaced parts ++ flat_map (λ w. 32 ∷ w) ws) (no_word p none) ∙ append-nil (spaced parts)
