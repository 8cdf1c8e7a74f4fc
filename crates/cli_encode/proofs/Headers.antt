-- A header in its digits.
-- for: header::read_header, encoder
use Rattle.std.proofs.Common.{◌≡◌, ◌∙◌, ◌<◌, ◌/◌, ◌%◌, ◌&&◌, ℕ, zero, suc, Bool, true, false, cond, eqb, ltb, leb, List, [], ◌∷◌, length, Some, None}
use Rattle.std.proofs.Common.{Result, Ok, Err, refl, sym, ap, subst, arith}
use Rattle.std.specs.Prelude.{slice_index}
use Rattle.std.specs.List.{flat_map, list_all}
use Rattle.std.proofs.lemmas.Bool.{eq-eqb, eqb-true, leb-true, le-leb, lt-ltb, ltb-true}
use Rattle.std.proofs.lemmas.Slice.Eq.{bytes_eq-Decides}
use Rattle.hex.specs.Hex.{IsBytes, decode_of, encode_upper, encode_with, upper_digits}
use Rattle.hex.specs.declared.error.FromHexError.{FromHexError}
use Rattle.hex.proofs.HexLemmas.{decode_of-encode_upper, decode_of-ok}
use Rattle.iso_msg.proofs.Bools.{and_both, some_is}
use Rattle.iso_msg.specs.Values.{is_byte}
use Rattle.iso_codec.specs.Spelling.{hex, upper}
use Rattle.cli_encode.specs.Headers.{has_size, header_by, header_from, is_spelled}
use Rattle.cli_encode.specs.Texts.{IsHeader}

-- ---- bytes in digits

digit_is : (d : ℕ) → d < 16 → slice_index upper_digits d ≡ upper d
digit_is zero h = refl
digit_is (suc zero) h = refl
digit_is (suc (suc zero)) h = refl
digit_is (suc (suc (suc zero))) h = refl
digit_is (suc (suc (suc (suc zero)))) h = refl
digit_is (suc (suc (suc (suc (suc zero))))) h = refl
digit_is (suc (suc (suc (suc (suc (suc zero)))))) h = refl
digit_is (suc (suc (suc (suc (suc (suc (suc zero))))))) h = refl
digit_is (suc (suc (suc (suc (suc (suc (suc (suc zero)))))))) h = refl
digit_is (suc (suc (suc (suc (suc (suc (suc (suc (suc zero))))))))) h = refl
digit_is (suc (suc (suc (suc (suc (suc (suc (suc (suc (suc zero)))))))))) h = refl
digit_is (suc (suc (suc (suc (suc (suc (suc (suc (suc (suc (suc zero))))))))))) h = refl
digit_is (suc (suc (suc (suc (suc (suc (suc (suc (suc (suc (suc (suc zero)))))))))))) h = refl
digit_is (suc (suc (suc (suc (suc (suc (suc (suc (suc (suc (suc (suc (suc zero))))))))))))) h = refl
digit_is (suc (suc (suc (suc (suc (suc (suc (suc (suc (suc (suc (suc (suc (suc zero)))))))))))))) h = refl
digit_is (suc (suc (suc (suc (suc (suc (suc (suc (suc (suc (suc (suc (suc (suc (suc zero))))))))))))))) h = refl
digit_is (suc (suc (suc (suc (suc (suc (suc (suc (suc (suc (suc (suc (suc (suc (suc (suc d)))))))))))))))) h = absurd (omega (arith, h))

upper_text : (v : List ℕ) → list_all is_byte v ≡ true → encode_upper v ≡ flat_map hex v
unfolding encode_with
upper_text [] h = refl
upper_text (b ∷ v) h =
    let p = and_both (is_byte b) (list_all is_byte v) h in
    let small : b < 256 = ltb-true b 256 p.0 in
    ap (λ c. c ∷ slice_index upper_digits (b % 16) ∷ encode_upper v) (digit_is (b / 16) (omega (arith, small)))
    ∙ ap (λ c. upper (b / 16) ∷ c ∷ encode_upper v) (digit_is (b % 16) (omega arith))
    ∙ ap (λ (l : List ℕ). upper (b / 16) ∷ upper (b % 16) ∷ l) (upper_text v p.1)

bytes_are : (v : List ℕ) → list_all is_byte v ≡ true → IsBytes v
bytes_are [] h i = omega arith
bytes_are (b ∷ v) h zero = ltb-true b 256 (and_both (is_byte b) (list_all is_byte v) h).0
bytes_are (b ∷ v) h (suc i) = bytes_are v (and_both (is_byte b) (list_all is_byte v) h).1 i

are_bytes : (v : List ℕ) → IsBytes v → list_all is_byte v ≡ true
are_bytes [] h = refl
are_bytes (b ∷ v) h = ap (λ t. t && list_all is_byte v) (lt-ltb b 256 (h 0)) ∙ are_bytes v (λ i. h (suc i))

-- ---- a header that was read

spelled_is : (header digits : List ℕ) → is_spelled header digits ≡ true → flat_map hex header ≡ digits
spelled_is header digits h = (bytes_eq-Decides (flat_map hex header) digits).0 h

abbrev Found : ℕ → List ℕ → List ℕ → Type 0
Found size digits header = (0 < size) × IsHeader size header × (flat_map hex header ≡ digits)

found_if : (size : ℕ) (digits v header : List ℕ) (b : Bool) → (has_size size v && is_spelled v digits) ≡ b → IsBytes v
    → cond b (Some v) None ≡ Some header → Found size digits header
found_if size digits v header false h bytes e = absurd cc
found_if size digits v header true h bytes e =
    let p = and_both (has_size size v) (is_spelled v digits) h in
    let q = and_both (eqb (length v) size && ltb 0 size) (leb size 64) p.0 in
    let r = and_both (eqb (length v) size) (ltb 0 size) q.0 in
    subst (Found size digits) (some_is v header e)
    (ltb-true 0 size r.1, (eqb-true (length v) size r.0, leb-true size 64 q.1, are_bytes v bytes), spelled_is v digits p.1)

found_by : (size : ℕ) (digits header : List ℕ) (r : Result (List ℕ) FromHexError) → decode_of digits ≡ r → header_by size digits r ≡ Some header
    → Found size digits header
found_by size digits header (Err x) is e = absurd cc
found_by size digits header (Ok v) is e = found_if size digits v header (has_size size v && is_spelled v digits) refl (decode_of-ok digits v is).3 e

pub found : (size : ℕ) (digits header : List ℕ) → header_from size digits ≡ Some header → Found size digits header
unfolding header_from
found size digits header e = found_by size digits header (decode_of digits) refl e

-- ---- the digits of a header

pub header_again_read : (size : ℕ) (header : List ℕ) → 0 < size → IsHeader size header → header_from size (flat_map hex header) ≡ Some header
unfolding header_from
header_again_read size header some h =
    let digits = flat_map hex header in
    let read : decode_of digits ≡ Ok header =
    ap decode_of (sym (upper_text header h.2)) ∙ decode_of-encode_upper header (bytes_are header h.2) in
    ap (header_by size digits) read
    ∙ ap (λ b. cond (((b && ltb 0 size) && leb size 64) && is_spelled header digits) (Some header) None) (eq-eqb (length header) size h.0)
    ∙ ap (λ b. cond ((b && leb size 64) && is_spelled header digits) (Some header) None) (lt-ltb 0 size some)
    ∙ ap (λ b. cond (b && is_spelled header digits) (Some header) None) (le-leb size 64 h.1)
    ∙ ap (λ b. cond b (Some header) None) ((bytes_eq-Decides digits digits).1 refl)
