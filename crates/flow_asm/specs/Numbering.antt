-- A map from names to participants' numbers.
use Rattle.std.specs.Prelude.{◌≡◌, ℕ, List, length, nat_lt, if◌then◌else◌, Option, Some, None}
use Rattle.std.specs.Borrow.{Bor}
use Rattle.std.specs.Ordering.{nat_cmp}
use Rattle.std.specs.Cmp.Lexicographic.{slice_cmp}
use Rattle.std.specs.BTreeMap.{BTreeMap, get_by}
use Rattle.flow_model.specs.declared.numbering.Part.{Part}
use Rattle.flow_model.specs.Places.{number_in}

-- what the map has at a name
abbrev pub number_at : BTreeMap (Bor (List ℕ)) ℕ → List ℕ → Option ℕ
number_at m name = get_by (λ k. slice_cmp nat_cmp name k.now) m

-- the number of a participant, if one has the name
abbrev pub known : List Part → List ℕ → Option ℕ
known parts name = if nat_lt (number_in parts name) (length parts) then Some (number_in parts name) else None

-- the map has the participants' numbers
abbrev pub IsNumbering : List Part → BTreeMap (Bor (List ℕ)) ℕ → Type 0
IsNumbering parts m = (name : List ℕ) → number_at m name ≡ known parts name
