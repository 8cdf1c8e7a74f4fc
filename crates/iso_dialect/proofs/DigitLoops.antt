-- Steps of loops over digits.
-- for: bitmap::read_bits (a copy of what iso_codec keeps to itself)
use Rattle.std.proofs.Common.{◌≡◌, ℕ, ◌+◌, ◌<◌, ◌≤◌, List, ◌++◌, length, get_or, drop, Option, Some, None, refl, sym, ap, ◌∙◌}
use Rattle.std.proofs.Common.{append_assoc}
use Rattle.std.proofs.lemmas.List.{drop_more, drop_all, append-nil}
use Rattle.iso_codec.specs.Digits.{hex_value, both, nibble, bits_at}
use Rattle.iso_codec.specs.Reads.{put_before}

with_digit : (at d : ℕ) (front : List ℕ) (o : Option ℕ) (r : Option (List ℕ)) → o ≡ Some d → put_before front (both (λ d ns. nibble at d ++ ns) o r)
    ≡ put_before (front ++ nibble at d) r
with_digit at d front o None e = rw e refl
with_digit at d front o (Some ns) e = rw e (ap Some (sym (append_assoc front (nibble at d) ns)))

pub bits_step : (text front : List ℕ) (i at d : ℕ) (total : Option (List ℕ)) → i < length text → hex_value (get_or text i 0) ≡ Some d
    → put_before front (bits_at at (drop i text)) ≡ total → put_before (front ++ nibble at d) (bits_at (at + 4) (drop (i + 1) text)) ≡ total
unfolding bits_at
bits_step text front i at d total h e so_far =
    sym (with_digit at d front (hex_value (get_or text i 0)) (bits_at (at + 4) (drop (i + 1) text)) e)
    ∙ sym (ap (λ (x : List ℕ). put_before front (bits_at at x)) (drop_more text i 0 h)) ∙ so_far

pub bits_none : (text front : List ℕ) (i at : ℕ) (total : Option (List ℕ)) → i < length text → hex_value (get_or text i 0) ≡ None
    → put_before front (bits_at at (drop i text)) ≡ total → None ≡ total
unfolding bits_at
bits_none text front i at total h e so_far =
    sym (ap (λ (o : Option ℕ). put_before front (both (λ d ns. nibble at d ++ ns) o (bits_at (at + 4) (drop (i + 1) text)))) e)
    ∙ sym (ap (λ (x : List ℕ). put_before front (bits_at at x)) (drop_more text i 0 h)) ∙ so_far

pub bits_end : (text front : List ℕ) (i at : ℕ) (total : Option (List ℕ)) → length text ≤ i
    → put_before front (bits_at at (drop i text)) ≡ total → Some front ≡ total
unfolding bits_at
bits_end text front i at total h so_far =
    ap Some (sym (append-nil front)) ∙ sym (ap (λ (x : List ℕ). put_before front (bits_at at x)) (drop_all i text h)) ∙ so_far
