-- How a message keeps its fields.
use Rattle.std.specs.Prelude.{ℕ, ◌+◌, ◌==◌, nat_lt, List, [], ◌∷◌, Result, Ok, Err, map, if◌then◌else◌}
use Rattle.iso_msg.specs.declared.field.Field.{Field}
use Rattle.iso_msg.specs.Messages.{Fields}

abbrev pub pair : Field → ℕ × List ℕ
pair f = (f.number, f.value.items)

-- fields without where they lie in memory
abbrev pub pairs : List Field → Fields
pairs fs = map pair fs

-- the index counted from i on
abbrev pub shift : ℕ → Result ℕ ℕ → Result ℕ ℕ
shift i (Ok k) = Ok (i + k)
shift i (Err k) = Err (i + k)

-- the index of a number, or else the index where it belongs
abbrev pub field_index : ℕ → Fields → Result ℕ ℕ
field_index n [] = Err 0
field_index n (f ∷ fs) = if nat_lt f.0 n then shift 1 (field_index n fs) else (if f.0 == n then Ok 0 else Err 0)
