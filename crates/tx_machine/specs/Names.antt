-- The names in a selector's text (jPOS: the groups that `GroupSelector.select` gives).
--
-- A selector's text.
--
-- `names_of`: the longest runs without space and comma, in order. `chosen f text` (in
-- `Table.antt`): the entries of the groups that the first 16 names name, in the order of the
-- names; an unknown name gives none.
use Rattle.std.specs.Prelude.{ℕ, Bool, false, not, ◌==◌, ◌||◌, List, [], ◌∷◌, if◌then◌else◌}

-- a space or a comma separates names
abbrev pub is_gap : ℕ → Bool
is_gap c = c == 32 || c == 44

abbrev pub begins_with_name : List ℕ → Bool
begins_with_name [] = false
begins_with_name (c ∷ cs) = not (is_gap c)

-- a byte before the first of the names, or as a name of its own
abbrev pub before_first : ℕ → List (List ℕ) → List (List ℕ)
before_first c [] = (c ∷ []) ∷ []
before_first c (n ∷ ns) = (c ∷ n) ∷ ns

-- the longest runs without a gap, in order
abbrev pub names_of : List ℕ → List (List ℕ)
names_of [] = []
names_of (c ∷ cs) = if is_gap c then names_of cs else if begins_with_name cs then before_first c (names_of cs) else (c ∷ []) ∷ names_of cs
