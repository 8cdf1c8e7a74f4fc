-- When a word is bytes of two hexadecimal digits each.
-- for: hexadecimal::is_hex
use Rattle.std.proofs.Common.{◌≡◌, ◌%◌, ℕ, Bool, true, false, List, [], ◌∷◌, length, Result, Ok, Err, is_some, refl, sym, arith}
use Rattle.std.proofs.lemmas.List.Sums.{AllPass-from_list_all, list_all-from_AllPass}
use Rattle.std.specs.Char.{is_ascii_hexdigit}
use Rattle.std.specs.List.{list_all}
use Rattle.std.specs.Result.{result_ok}
use Rattle.hex.specs.Hex.{decode_of, is_hex_digit}
use Rattle.hex.proofs.HexLemmas.{decode_of-digits, decode_of-ok}
use Rattle.hex.specs.declared.error.FromHexError.{FromHexError}

same_digit : (c : ℕ) → is_ascii_hexdigit c ≡ is_hex_digit c
same_digit c = grind (arith)

same_digits : (xs : List ℕ) → list_all is_ascii_hexdigit xs ≡ list_all is_hex_digit xs
same_digits [] = refl
same_digits (x ∷ xs) = let one = same_digit x in let more = same_digits xs in rw (one, more) refl

found : (w : List ℕ) (r : Result (List ℕ) FromHexError) → decode_of w ≡ r → list_all is_hex_digit w ≡ false → is_some (result_ok r) ≡ false
found w (Ok bytes) is none = absurd (let all = list_all-from_AllPass is_hex_digit w (decode_of-ok w bytes is).1 in cc (all, none))
found w (Err e) is none = refl

spells : (w : List ℕ) (b : Bool) → length w % 2 ≡ 0 → list_all is_hex_digit w ≡ b → b ≡ is_some (result_ok (decode_of w))
spells w true even all = let (bytes, is) = decode_of-digits w even (AllPass-from_list_all is_hex_digit w all) in rw is refl
spells w false even none = sym (found w (decode_of w) refl none)

pub spells_bytes : (w : List ℕ) → length w % 2 ≡ 0 → list_all is_ascii_hexdigit w ≡ is_some (result_ok (decode_of w))
spells_bytes w even = spells w (list_all is_ascii_hexdigit w) even (sym (same_digits w))

odd : (w : List ℕ) (r : Result (List ℕ) FromHexError) → decode_of w ≡ r → length w % 2 ≡ 1 → is_some (result_ok r) ≡ false
odd w (Ok bytes) is one = absurd (let even = (decode_of-ok w bytes is).0 in omega (arith, even, one))
odd w (Err e) is one = refl

pub odd_spells_none : (w : List ℕ) → length w % 2 ≡ 1 → is_some (result_ok (decode_of w)) ≡ false
odd_spells_none w one = odd w (decode_of w) refl one
