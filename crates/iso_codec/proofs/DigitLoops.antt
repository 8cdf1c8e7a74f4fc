-- Steps of loops over digits.
-- for: bitmap::read_bits, parts::read_octets
use Rattle.std.proofs.Common.{◌≡◌, ℕ, ◌+◌, ◌*◌, ◌<◌, ◌≤◌, List, [], ◌∷◌, ◌++◌, length, get_or, take, drop, set, Option, Some, None, refl, sym, ap, ◌∙◌}
use Rattle.std.proofs.Common.{append_assoc, arith}
use Rattle.std.proofs.lemmas.List.{drop_more, drop_all, append-nil, take_more_set, take_all}
use Rattle.iso_codec.specs.Digits.{hex_value, both, nibble, bits_at, octets}
use Rattle.iso_codec.specs.Reads.{put_before}

with_digit : (at d : ℕ) (front : List ℕ) (o : Option ℕ) (r : Option (List ℕ)) → o ≡ Some d → put_before front (both (λ d ns. nibble at d ++ ns) o r)
    ≡ put_before (front ++ nibble at d) r
with_digit at d front o None e = rw e refl
with_digit at d front o (Some ns) e = rw e (ap Some (sym (append_assoc front (nibble at d) ns)))

pub bits_step : (text front : List ℕ) (i at d : ℕ) (total : Option (List ℕ)) → i < length text → hex_value (get_or text i 0) ≡ Some d
    → put_before front (bits_at at (drop i text)) ≡ total → put_before (front ++ nibble at d) (bits_at (at + 4) (drop (i + 1) text)) ≡ total
unfolding bits_at
bits_step text front i at d total h e so_far =
    sym (with_digit at d front (hex_value (get_or text i 0)) (bits_at (at + 4) (drop (i + 1) text)) e)
    ∙ sym (ap (λ (x : List ℕ). put_before front (bits_at at x)) (drop_more text i 0 h)) ∙ so_far

pub bits_none : (text front : List ℕ) (i at : ℕ) (total : Option (List ℕ)) → i < length text → hex_value (get_or text i 0) ≡ None
    → put_before front (bits_at at (drop i text)) ≡ total → None ≡ total
unfolding bits_at
bits_none text front i at total h e so_far =
    sym (ap (λ (o : Option ℕ). put_before front (both (λ d ns. nibble at d ++ ns) o (bits_at (at + 4) (drop (i + 1) text)))) e)
    ∙ sym (ap (λ (x : List ℕ). put_before front (bits_at at x)) (drop_more text i 0 h)) ∙ so_far

pub bits_end : (text front : List ℕ) (i at : ℕ) (total : Option (List ℕ)) → length text ≤ i
    → put_before front (bits_at at (drop i text)) ≡ total → Some front ≡ total
unfolding bits_at
bits_end text front i at total h so_far =
    ap Some (sym (append-nil front)) ∙ sym (ap (λ (x : List ℕ). put_before front (bits_at at x)) (drop_all i text h)) ∙ so_far

with_octet : (b : ℕ) (front : List ℕ) (o : Option ℕ) (r : Option (List ℕ)) → o ≡ Some b →
    put_before front (both (λ b bs. b ∷ bs) o r) ≡ put_before (front ++ b ∷ []) r
with_octet b front o None e = rw e refl
with_octet b front o (Some bs) e = rw e (ap Some (sym (append_assoc front (b ∷ []) bs)))

abbrev octet_at : List ℕ → ℕ → Option ℕ
octet_at text i = both (λ h l. 16 * h + l) (hex_value (get_or text i 0)) (hex_value (get_or text (i + 1) 0))

two_more : (text : List ℕ) (i : ℕ) → i + 1 < length text → drop i text ≡ get_or text i 0 ∷ get_or text (i + 1) 0 ∷ drop (i + 1 + 1) text
two_more text i h = drop_more text i 0 (omega arith) ∙ ap (λ (x : List ℕ). get_or text i 0 ∷ x) (drop_more text (i + 1) 0 h)

pub octet_step : (text bytes : List ℕ) (i b : ℕ) (total : Option (List ℕ)) → 2 * i + 1 < length text → i < length bytes → octet_at text (2 * i) ≡ Some b
    → put_before (take i bytes) (octets (drop (2 * i) text)) ≡ total → put_before (take (i + 1) (set bytes i b)) (octets (drop (2 * (i + 1)) text)) ≡ total
unfolding octets
octet_step text bytes i b total h k e so_far =
    let at : 2 * (i + 1) ≡ 2 * i + 1 + 1 = omega arith in
    rw (take_more_set bytes i b k, at) (sym (with_octet b (take i bytes) (octet_at text (2 * i)) (octets (drop (2 * i + 1 + 1) text)) e)
    ∙ sym (ap (λ (x : List ℕ). put_before (take i bytes) (octets x)) (two_more text (2 * i) h)) ∙ so_far)

pub octet_none : (text bytes : List ℕ) (i : ℕ) (total : Option (List ℕ)) → 2 * i + 1 < length text → octet_at text (2 * i) ≡ None
    → put_before (take i bytes) (octets (drop (2 * i) text)) ≡ total → None ≡ total
unfolding octets
octet_none text bytes i total h e so_far =
    sym (ap (λ (o : Option ℕ). put_before (take i bytes) (both (λ b bs. b ∷ bs) o (octets (drop (2 * i + 1 + 1) text)))) e)
    ∙ sym (ap (λ (x : List ℕ). put_before (take i bytes) (octets x)) (two_more text (2 * i) h)) ∙ so_far

pub octets_end : (text bytes : List ℕ) (i : ℕ) (total : Option (List ℕ)) → length text ≤ 2 * i → length bytes ≤ i
    → put_before (take i bytes) (octets (drop (2 * i) text)) ≡ total → Some bytes ≡ total
unfolding octets
octets_end text bytes i total h k so_far =
    ap Some (sym (append-nil bytes)) ∙ ap (λ (x : List ℕ). Some (x ++ [])) (sym (take_all i bytes k))
    ∙ sym (ap (λ (x : List ℕ). put_before (take i bytes) (octets x)) (drop_all (2 * i) text h)) ∙ so_far
