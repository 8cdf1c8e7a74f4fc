-- What is handed on of bytes that wait.
use Rattle.std.specs.Prelude.{◌≡◌, ℕ, List, ◌++◌, Option}
use Rattle.std.specs.Io.KnownBytes.{Appends}

-- the first of the waiting bytes were written, and the rest still waits
abbrev pub HandsOn : Option (List ℕ) → Option (List ℕ) → List ℕ → List ℕ → Type 0
HandsOn old new waiting left = (sent : List ℕ) × (waiting ≡ sent ++ left) × Appends old new sent
