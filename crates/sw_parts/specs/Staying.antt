-- States of a link that nothing changes.
use Rattle.std.specs.Prelude.{◌≡◌, ℕ, List, Option}

-- no send and no receive leads from this state to another one
pub record Stays (sends : List ℕ → List ℕ → List ℕ → Type 0) (receives : List ℕ → Option (List ℕ) → List ℕ → Type 0) (s : List ℕ) : Type 0 where
  pub sent : (message t : List ℕ) → sends s message t → t ≡ s
  pub received : (came : Option (List ℕ)) (t : List ℕ) → receives s came t → t ≡ s
