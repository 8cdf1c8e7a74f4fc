-- The number of calls of the first station of a name, by only names and numbers.
-- for: shown::calls_line
use Rattle.std.proofs.Common.{◌≡◌, ◌∷◌, [], ℕ, Bool, true, false, List, Option, Some, map, option_map, unwrap_or, refl, if◌then◌else◌}
use Rattle.std.specs.List.{find}
use Rattle.std.specs.Str.{bytes_eq}
use Rattle.cli_step.specs.Shown.{calls_made}

by_test : {A : Type 0} (count : A → ℕ) (x : A) (b : Bool) (n : ℕ) (found : Option A) → n ≡ unwrap_or (option_map count found) 0
    → (if b then count x else n) ≡ unwrap_or (option_map count (if b then Some x else found)) 0
by_test count x true n found rest = refl
by_test count x false n found rest = rest

pub counted : {A : Type 0} (named : A → List ℕ) (count : A → ℕ) (xs : List A) (name : List ℕ)
    → calls_made (map named xs) (map count xs) name ≡ unwrap_or (option_map count (find (λ s. bytes_eq (named s) name) xs)) 0
counted named count [] name = refl
counted named count (x ∷ xs) name =
    by_test count x (bytes_eq (named x) name) (calls_made (map named xs) (map count xs) name) (find (λ s. bytes_eq (named s) name) xs)
    (counted named count xs name)
