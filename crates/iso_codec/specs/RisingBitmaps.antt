-- The same bitmaps as they are written: numbers rise, so each bit looks at the front of those that
-- are left.
use Rattle.std.specs.Prelude.{ℕ, zero, suc, ◌+◌, ◌*◌, ◌==◌, nat_lt, List, [], ◌∷◌, ◌++◌, if◌then◌else◌}
use Rattle.std.specs.List.{flat_map, list_any}
use Rattle.iso_msg.specs.Messages.{PlainMessage, numbers_of}
use Rattle.iso_codec.specs.Spelling.{upper, field_text}

-- whether the first number is n, as a bit, and the numbers after it
abbrev pub bit_of : ℕ → List ℕ → ℕ × List ℕ
bit_of n [] = (0, [])
bit_of n (x ∷ xs) = if x == n then (1, xs) else (0, x ∷ xs)

-- the value of the digit for bits n to n + 3, and the numbers after them
abbrev pub digit_of : ℕ → List ℕ → ℕ × List ℕ
digit_of n ns =
    let a = bit_of n ns in
    let b = bit_of (n + 1) a.1 in
    let c = bit_of (n + 2) b.1 in
    let d = bit_of (n + 3) c.1 in
    (8 * a.0 + 4 * b.0 + 2 * c.0 + d.0, d.1)

-- this many digits, the first for bits n to n + 3
unfoldable pub bits_of : ℕ → ℕ → List ℕ → List ℕ
bits_of n zero ns = []
bits_of n (suc digits) ns = upper (digit_of n ns).0 ∷ bits_of (n + 4) digits (digit_of n ns).1

abbrev pub bitmaps_of : List ℕ → List ℕ
bitmaps_of ns = if list_any (λ n. nat_lt 64 n) ns then bits_of 1 32 (1 ∷ ns) else bits_of 1 16 ns

-- the spelling of a message, by these bitmaps
abbrev pub merged : PlainMessage → List ℕ
merged m = m.mti ++ (bitmaps_of (numbers_of m.fields) ++ flat_map field_text m.fields)
