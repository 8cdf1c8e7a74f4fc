-- Bytes as a message shows them.
use Rattle.std.specs.Prelude.{ℕ, ◌≤◌, Bool, ◌&&◌, nat_le, nat_lt, List, [], ◌∷◌, ◌++◌, length, map, take, codes, if◌then◌else◌}

abbrev pub IsPrintable : ℕ → Type 0
IsPrintable c = (32 ≤ c) × (c ≤ 126)

-- a byte that is not printable ASCII is shown as a full stop
abbrev pub shown : ℕ → ℕ
shown c = if nat_le 32 c && nat_le c 126 then c else 46

-- between quotation marks, and what comes after them where some bytes were left out
abbrev pub between_marks : List ℕ → Bool → List ℕ
between_marks text cut = 34 ∷ (text ++ 34 ∷ (if cut then codes " .." else []))

-- at most 40 of the bytes
abbrev pub quoted : List ℕ → List ℕ
quoted bytes = between_marks (map shown (take 40 bytes)) (nat_lt 40 (length bytes))
