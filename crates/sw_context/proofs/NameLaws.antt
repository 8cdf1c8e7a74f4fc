-- Names are short ASCII texts.
-- for: context::reading::name_at_front
use Rattle.std.proofs.Common.{◌≡◌, ℕ, ◌<◌, ◌≤◌, Bool, true, false, ◌&&◌, nat_le, List, [], ◌∷◌, length, refl, arith}
use Rattle.std.specs.List.{list_all}
use Rattle.std.specs.Str.{IsAscii, IsUtf8}
use Rattle.std.proofs.lemmas.Bool.Decides.{nat_tests}
use Rattle.std.proofs.lemmas.Str.{IsUtf8-from_ascii}
use Rattle.std.proofs.lemmas.Str.Ascii.{IsAscii-nil, IsAscii-cons}
use Rattle.sw_context.specs.Names.{is_name, is_name_byte}

pub name_byte-ascii : (b : ℕ) → is_name_byte b ≡ true → b < 128
name_byte-ascii b h = grind (arith, nat_tests)

name_bytes-ascii : (bytes : List ℕ) → list_all is_name_byte bytes ≡ true → IsAscii bytes
name_bytes-ascii [] h = IsAscii-nil
name_bytes-ascii (b ∷ bs) h =
    let both = parts (is_name_byte b) (list_all is_name_byte bs) h in
    IsAscii-cons b bs (name_byte-ascii b both.0) (name_bytes-ascii bs both.1)
  where
    parts : (x y : Bool) → (x && y) ≡ true → (x ≡ true) × (y ≡ true)
    parts true y e = (refl, e)
    parts false y e = absurd cc

-- a name's bytes are letters, digits, `_`, `-` and `.`
pub name-bytes : (name : List ℕ) → is_name name ≡ true → list_all is_name_byte name ≡ true
unfolding is_name
name-bytes name h = second (nat_le 1 (length name) && nat_le (length name) 32) (list_all is_name_byte name) h
  where
    second : (x y : Bool) → (x && y) ≡ true → y ≡ true
    second true y e = e
    second false y e = absurd cc

-- it has 1 to 32 of them
pub name-length : (name : List ℕ) → is_name name ≡ true → (0 < length name) × (length name ≤ 32)
unfolding is_name
name-length name h = (grind (arith, nat_tests), grind (arith, nat_tests))

-- so it is a text
pub name-utf8 : (name : List ℕ) → is_name name ≡ true → IsUtf8 name
name-utf8 name h = IsUtf8-from_ascii name (name_bytes-ascii name (name-bytes name h))
