-- Hexadecimal digits in text.
use Rattle.std.specs.Prelude.{ℕ, ◌+◌, ◌-◌, ◌*◌, ◌%◌, Bool, ◌&&◌, nat_le, List, [], ◌∷◌, ◌++◌, Option, Some, None, if◌then◌else◌}

-- the value of a hexadecimal digit, in either case
abbrev pub hex_value : ℕ → Option ℕ
hex_value c =
    if nat_le 48 c && nat_le c 57 then Some (c - 48)
    else (if nat_le 65 c && nat_le c 70 then Some (c - 55)
    else (if nat_le 97 c && nat_le c 102 then Some (c - 87) else None))

-- a function of two values, if there are both
abbrev pub both : {A B C : Type 0} → (A → B → C) → Option A → Option B → Option C
both f (Some x) (Some y) = Some (f x y)
both f (Some x) None = None
both f None y = None

-- a number where its bit is set
abbrev pub bit : ℕ → Bool → List ℕ
bit n is_set = if is_set then n ∷ [] else []

-- the numbers of the set bits of a hexadecimal digit, whose highest bit has number n
abbrev pub nibble : ℕ → ℕ → List ℕ
nibble n d =
    bit n (nat_le 8 d) ++ bit (n + 1) (nat_le 4 (d % 8)) ++ bit (n + 2) (nat_le 2 (d % 4)) ++ bit (n + 3) (nat_le 1 (d % 2))

-- the numbers of the set bits of a text of hexadecimal digits, whose first bit has number n
unfoldable pub bits_at : ℕ → List ℕ → Option (List ℕ)
bits_at n [] = Some []
bits_at n (c ∷ cs) = both (λ d ns. nibble n d ++ ns) (hex_value c) (bits_at (n + 4) cs)

-- the bytes that a text of hexadecimal digits represents, two digits for each
unfoldable pub octets : List ℕ → Option (List ℕ)
octets [] = Some []
octets (c ∷ []) = None
octets (c ∷ e ∷ cs) = both (λ b bs. b ∷ bs) (both (λ h l. 16 * h + l) (hex_value c) (hex_value e)) (octets cs)
