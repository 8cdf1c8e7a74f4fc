-- Steps of writing.
-- for: write::push_bitmaps
use Rattle.std.proofs.Common.{◌≡◌, true, false, ltb, ℕ, suc, ◌<◌, ◌≤◌, ◌+◌, ◌-◌, List, [], ◌∷◌, ◌++◌, refl, sym, ap, ◌∙◌, append_assoc, arith}
use Rattle.std.proofs.lemmas.List.{append-nil}
use Rattle.std.specs.List.{list_any}
use Rattle.iso_codec.specs.Spelling.{upper}
use Rattle.iso_codec.specs.RisingBitmaps.{digit_of, bits_of, bitmaps_of}

abbrev Digit : Type 0
Digit = ℕ × List ℕ

abbrev after_digit : ℕ → ℕ → Digit → List ℕ
after_digit at k x = upper x.0 ∷ bits_of (at + 4) k x.1

pub push_step : (out new : List ℕ) (at digits i d : ℕ) (rest after total : List ℕ) → i < digits → new ≡ out ++ upper d ∷ [] → let x : Digit = (d, after) in
    x ≡ digit_of at rest
    → out ++ bits_of at (digits - i) rest ≡ total → new ++ bits_of (at + 4) (digits - (i + 1)) after ≡ total
unfolding bits_of
push_step out new at digits i d rest after total h e x so_far =
    let k : digits - i ≡ suc (digits - (i + 1)) = omega arith in
    let more = bits_of (at + 4) (digits - (i + 1)) after in
    ap (λ (y : List ℕ). y ++ more) e ∙ append_assoc out (upper d ∷ []) more ∙ ap (λ (y : Digit). out ++ after_digit at (digits - (i + 1)) y) x
    ∙ sym (ap (λ m. out ++ bits_of at m rest) k) ∙ so_far

pub push_end : (out : List ℕ) (at digits i : ℕ) (rest total : List ℕ) → digits ≤ i → out ++ bits_of at (digits - i) rest ≡ total → out ≡ total
unfolding bits_of
push_end out at digits i rest total h so_far =
    let k : digits - i ≡ 0 = omega arith in
    sym (append-nil out) ∙ sym (ap (λ m. out ++ bits_of at m rest) k) ∙ so_far

pub narrow_bitmaps : (ns : List ℕ) → list_any (λ n. ltb 64 n) ns ≡ false → bits_of 1 16 ns ≡ bitmaps_of ns
narrow_bitmaps ns e = rw e refl

-- the first digit, and the rest
pub wide_bitmaps : (ns after : List ℕ) (d : ℕ) → list_any (λ n. ltb 64 n) ns ≡ true → let x : Digit = (d, after) in x ≡ digit_of 1 (1 ∷ ns) →
    upper d ∷ bits_of 5 31 after ≡ bitmaps_of ns
unfolding bits_of
wide_bitmaps ns after d e x = rw e (ap (λ (y : Digit). after_digit 1 31 y) x)
