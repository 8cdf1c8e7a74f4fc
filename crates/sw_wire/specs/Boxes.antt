-- The items of a box, oldest first: the first that passes a test, those after it, and how many come
-- before it.
use Rattle.std.specs.Prelude.{ℕ, suc, ◌+◌, Bool, List, [], ◌∷◌, Option, Some, None, if◌then◌else◌}

module _ {A : Type 0} where
  abbrev pub first_of : (A → Bool) → List A → Option A
  first_of passes [] = None
  first_of passes (x ∷ xs) = if passes x then Some x else first_of passes xs

  abbrev pub after_first : (A → Bool) → List A → List A
  after_first passes [] = []
  after_first passes (x ∷ xs) = if passes x then xs else after_first passes xs

  -- all of them, where none passes
  abbrev pub before_first : (A → Bool) → List A → ℕ
  before_first passes [] = 0
  before_first passes (x ∷ xs) = if passes x then 0 else (before_first passes xs + 1)

  -- all but the first that passes
  abbrev pub without_first : (A → Bool) → List A → List A
  without_first passes [] = []
  without_first passes (x ∷ xs) = if passes x then xs else x ∷ without_first passes xs

  -- where the first that passes stands; their number, where none does
  abbrev pub place_of : (A → Bool) → List A → ℕ
  place_of passes [] = 0
  place_of passes (x ∷ xs) = if passes x then 0 else suc (place_of passes xs)
