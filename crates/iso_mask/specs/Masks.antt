-- What is shown of an account number.
use Rattle.std.specs.Prelude.{◌≡◌, ◌<◌, ◌⊎◌, ℕ, ◌-◌, nat_lt, List, ◌++◌, length, take, drop, replicate, if◌then◌else◌}

-- the first six digits and the last four, and an asterisk for each of the others; of fewer than eleven none is shown
abbrev pub masked_number : List ℕ → List ℕ
masked_number value =
    if nat_lt (length value) 11 then replicate (length value) 42
    else take 6 value ++ (replicate (length value - 10) 42 ++ drop (length value - 4) value)

-- account numbers of one length, of fewer than eleven digits, or with the same first six and the same last four
abbrev pub AgreesNumber : List ℕ → List ℕ → Type 0
AgreesNumber v w =
    (length v ≡ length w)
    × ((length v < 11) ⊎ ((take 6 v ≡ take 6 w) × (drop (length v - 4) v ≡ drop (length w - 4) w)))
