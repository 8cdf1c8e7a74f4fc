-- What a failed write leaves.
use Rattle.std.specs.Prelude.{◌≡◌, ℕ, List, ◌++◌, Option}
use Rattle.std.specs.Io.KnownBytes.{Appends}

-- a beginning of these bytes was added to what a writer holds, where that is known: none of them, or some, or all
abbrev pub AppendsBeginning : Option (List ℕ) → Option (List ℕ) → List ℕ → Type 0
AppendsBeginning old new bytes = (first rest : List ℕ) × (bytes ≡ first ++ rest) × Appends old new first
