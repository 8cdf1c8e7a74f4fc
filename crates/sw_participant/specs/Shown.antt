-- What a participant keeps, as a list of numbers. An implementation whose object is more than a few bytes gives a code
-- of its values, and shows them by it: no two are shown alike, so a relation may speak of the values themselves.
use Rattle.std.specs.Prelude.{ℕ, List, [], ◌∷◌, ◌++◌}
use base.Stored.{Gv, gnil, gnum, gcons}
use Rattle.std.specs.Coded.{Coded}

-- a tree of numbers, from the left
abbrev pub tokens : Gv → List ℕ
tokens gnil = 0 ∷ []
tokens (gnum n) = 1 ∷ n ∷ []
tokens (gcons a b) = 2 ∷ (tokens a ++ tokens b)

-- a value that has a code, as numbers
abbrev pub shown : {A : Type 0} → Coded A → A → List ℕ
shown coded x = tokens (coded.code x)
