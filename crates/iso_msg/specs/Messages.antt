-- What a message is: a type of four digits, and a finite map of valid values.
use Rattle.std.specs.Prelude.{◌≡◌, ◌≢◌, ◌<◌, ℕ, true, List, [], ◌∷◌, length, map, Option, Some, None, ◌==◌, nat_lt, if◌then◌else◌}
use Rattle.std.specs.List.{list_all}
use Rattle.sw_base.specs.Digits.{is_digit}
use Rattle.iso_msg.specs.Values.{refusal}

-- a finite map from numbers to values, as the list of its pairs
abbrev pub Fields : Type 0
Fields = List (ℕ × List ℕ)

-- a message without where it lies in memory
pub record PlainMessage : Type 0 where
  pub mti : List ℕ
  pub fields : Fields

abbrev pub IsMti : List ℕ → Type 0
IsMti digits = (length digits ≡ 4) × (list_all is_digit digits ≡ true)

-- the numbers rise, from above low, and each field takes its value
abbrev pub AreFields : ℕ → Fields → Type 0
AreFields low [] = Unit {0}
AreFields low (field ∷ fields) = (low < field.0) × (refusal field.0 field.1 ≡ None) × AreFields field.0 fields

-- bit 1 tells that there is a second bitmap, so the numbers of fields are above it
abbrev pub IsMessage : PlainMessage → Type 0
IsMessage m = IsMti m.mti × AreFields 1 m.fields

abbrev pub numbers_of : Fields → List ℕ
numbers_of fields = map (λ field. field.0) fields

-- what the map has at a number
abbrev pub value_at : ℕ → Fields → Option (List ℕ)
value_at n [] = None
value_at n (field ∷ fields) = if field.0 == n then Some field.1 else value_at n fields

-- the map with this value at the number, whatever was there
abbrev pub with_value : ℕ → List ℕ → Fields → Fields
with_value n value [] = (n, value) ∷ []
with_value n value (field ∷ fields) =
    if nat_lt field.0 n then field ∷ with_value n value fields
    else (if field.0 == n then (n, value) ∷ fields else (n, value) ∷ field ∷ fields)

-- the map without the number
abbrev pub without : ℕ → Fields → Fields
without n [] = []
without n (field ∷ fields) = if field.0 == n then fields else field ∷ without n fields

-- The laws of a map.

abbrev pub ReadsBack : Type 0
ReadsBack = (n : ℕ) (value : List ℕ) (fields : Fields) → value_at n (with_value n value fields) ≡ Some value

abbrev pub KeepsOthers : Type 0
KeepsOthers = (n k : ℕ) (value : List ℕ) (fields : Fields) → k ≢ n
    → value_at k (with_value n value fields) ≡ value_at k fields

abbrev pub TakesOut : Type 0
TakesOut = (n low : ℕ) (fields : Fields) → AreFields low fields → value_at n (without n fields) ≡ None

abbrev pub LeavesOthers : Type 0
LeavesOthers = (n k : ℕ) (fields : Fields) → k ≢ n → value_at k (without n fields) ≡ value_at k fields

-- two maps with the same value at each number are one list
abbrev pub IsDetermined : Type 0
IsDetermined = (low : ℕ) (fields others : Fields) → AreFields low fields → AreFields low others
    → ((n : ℕ) → value_at n fields ≡ value_at n others) → fields ≡ others
