-- Outcomes that do not concern a participant.
use Rattle.std.specs.Prelude.{◌≡◌, ℕ, List, Option, None}
use Rattle.sw_context.specs.Pairs.{Pairs}

-- an outcome without effect and without advice
abbrev pub StaysQuiet : List ℕ → Pairs → Option (List ℕ) → List ℕ → Pairs → Type 0
StaysQuiet o x advice p y = (p ≡ o) × (advice ≡ None) × (y ≡ x)

-- nothing to restore after a restart
abbrev pub RestoresNothing : List ℕ → Pairs → List ℕ → Pairs → Type 0
RestoresNothing o x p y = (p ≡ o) × (y ≡ x)
