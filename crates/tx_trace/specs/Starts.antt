-- The names in a table of groups' first steps.
use Rattle.std.specs.Prelude.{ℕ, Bool, false, ◌||◌, List, [], ◌∷◌}
use Rattle.std.specs.Str.{bytes_eq}
use Rattle.flow_asm.specs.declared.code.GroupStart.{GroupStart}

-- one of the groups has the name
abbrev pub is_start : List ℕ → List GroupStart → Bool
is_start n [] = false
is_start n (x ∷ xs) = bytes_eq x.name n || is_start n xs
