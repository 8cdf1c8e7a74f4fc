-- The halves of a text that a coding has bytes for are below 16.
-- for: write_text::push_packed, write_text::push_octets
use Rattle.std.proofs.Common.{◌≡◌, ℕ, ◌%◌, Bool, true, false, cond, eqb, ltb, List, [], ◌∷◌, ◌++◌, length, refl}
use Rattle.std.specs.Prelude.{map}
use Rattle.std.specs.List.{list_all}
use Rattle.std.proofs.lemmas.Bool.{lt-ltb}
use Rattle.std.proofs.lemmas.List.Folds.{list_all-append}
use Rattle.iso_msg.proofs.Bools.{and_both}
use Rattle.iso_dialect.specs.declared.coding.Coding.TheVariants.{Packed, Octets}
use Rattle.iso_dialect.specs.Codings.{half_of, hex_half, is_half, is_packed, is_upper_hex, is_writable, padded}
use Rattle.iso_dialect.proofs.Packing.{digit_back, hex_back}

digit_halves : (text : List ℕ) → list_all is_packed text ≡ true → list_all is_half (map half_of text) ≡ true
digit_halves [] h = refl
digit_halves (c ∷ text) h =
    let p = and_both (is_packed c) (list_all is_packed text) h in
    rw (lt-ltb (half_of c) 16 (digit_back c p.0).0) (digit_halves text p.1)

hex_halves : (text : List ℕ) → list_all is_upper_hex text ≡ true → list_all is_half (map hex_half text) ≡ true
hex_halves [] h = refl
hex_halves (c ∷ text) h =
    let p = and_both (is_upper_hex c) (list_all is_upper_hex text) h in
    rw (lt-ltb (hex_half c) 16 (hex_back c p.0).0) (hex_halves text p.1)

with_pad : (r : Bool) (pad : ℕ) (ds : List ℕ) → ltb pad 16 ≡ true → list_all is_half ds ≡ true → list_all is_half (padded r pad ds) ≡ true
with_pad r pad ds p h = by r (eqb (length ds % 2) 0)
  where
    by : (r b : Bool) → list_all is_half (cond b ds (cond r (ds ++ pad ∷ []) (pad ∷ ds))) ≡ true
    by r true = h
    by true false = rw (list_all-append is_half ds (pad ∷ []), h, p) refl
    by false false = rw (p, h) refl

pub packed_halves : (r : Bool) (pad : ℕ) (text : List ℕ) → is_writable (Packed r pad) text ≡ true → list_all is_half (padded r pad (map half_of text)) ≡ true
packed_halves r pad text h =
    let p = and_both (ltb pad 16) (list_all is_packed text) h in
    with_pad r pad (map half_of text) p.0 (digit_halves text p.1)

pub octet_halves : (text : List ℕ) → is_writable Octets text ≡ true → list_all is_half (map hex_half text) ≡ true
octet_halves text h = hex_halves text (and_both (eqb (length text % 2) 0) (list_all is_upper_hex text) h).1
