-- The parts of a key, put into 25 bytes.
-- for: key::key_by
use Rattle.std.proofs.Common.{◌≡◌, ℕ, ◌-◌, ◌≤◌, List, [], ◌∷◌, ◌++◌, length, refl, ap, ◌∙◌, append-nil, arith}
use borrow.Rule.Slice.PartMut.{put_mid}
use Rattle.std.specs.Prelude.{replicate, slice_index}
use Rattle.sw_mux.specs.Keys.{trimmed, request_digit, key_by}

-- 25 bytes, with three of them filled
abbrev pub blank_key : ℕ → ℕ → ℕ → List ℕ
blank_key a b d = a ∷ b ∷ d ∷ replicate 22 48

pub placed : (a b d : ℕ) (t u : List ℕ) → length t ≤ 8
    → put_mid 19 6 (put_mid (19 - length t) (19 - (19 - length t)) (blank_key a b d) t) u ≡ (a ∷ b ∷ d ∷ replicate (16 - length t) 48) ++ t ++ u
placed a b d [] u h = ap (λ z. a ∷ b ∷ d ∷ (replicate 16 48 ++ z)) (append-nil u)
placed a b d (_ ∷ []) u h = ap (λ z. a ∷ b ∷ d ∷ (replicate 15 48 ++ _ ∷ z)) (append-nil u)
placed a b d (_ ∷ _ ∷ []) u h = ap (λ z. a ∷ b ∷ d ∷ (replicate 14 48 ++ _ ∷ _ ∷ z)) (append-nil u)
placed a b d (_ ∷ _ ∷ _ ∷ []) u h = ap (λ z. a ∷ b ∷ d ∷ (replicate 13 48 ++ _ ∷ _ ∷ _ ∷ z)) (append-nil u)
placed a b d (_ ∷ _ ∷ _ ∷ _ ∷ []) u h = ap (λ z. a ∷ b ∷ d ∷ (replicate 12 48 ++ _ ∷ _ ∷ _ ∷ _ ∷ z)) (append-nil u)
placed a b d (_ ∷ _ ∷ _ ∷ _ ∷ _ ∷ []) u h = ap (λ z. a ∷ b ∷ d ∷ (replicate 11 48 ++ _ ∷ _ ∷ _ ∷ _ ∷ _ ∷ z)) (append-nil u)
placed a b d (_ ∷ _ ∷ _ ∷ _ ∷ _ ∷ _ ∷ []) u h = ap (λ z. a ∷ b ∷ d ∷ (replicate 10 48 ++ _ ∷ _ ∷ _ ∷ _ ∷ _ ∷ _ ∷ z)) (append-nil u)
placed a b d (_ ∷ _ ∷ _ ∷ _ ∷ _ ∷ _ ∷ _ ∷ []) u h = ap (λ z. a ∷ b ∷ d ∷ (replicate 9 48 ++ _ ∷ _ ∷ _ ∷ _ ∷ _ ∷ _ ∷ _ ∷ z)) (append-nil u)
placed a b d (_ ∷ _ ∷ _ ∷ _ ∷ _ ∷ _ ∷ _ ∷ _ ∷ []) u h = ap (λ z. a ∷ b ∷ d ∷ (replicate 8 48 ++ _ ∷ _ ∷ _ ∷ _ ∷ _ ∷ _ ∷ _ ∷ _ ∷ z)) (append-nil u)
placed a b d (_ ∷ _ ∷ _ ∷ _ ∷ _ ∷ _ ∷ _ ∷ _ ∷ _ ∷ t) u h = absurd (omega arith)

-- the key, from what the calls in `key_by` answered
pub key_is : (mti terminal stan t : List ℕ) (d : ℕ) (t' u' : List ℕ) → length mti ≡ 4 → length t ≤ 8 → t ≡ trimmed terminal
    → d ≡ request_digit (slice_index mti 2) → t' ≡ t → u' ≡ stan
    → put_mid 19 6 (put_mid (19 - length t) (19 - (19 - length t)) (blank_key (slice_index mti 0) (slice_index mti 1) d) t') u' ≡ key_by mti terminal stan
key_is (m ∷ n ∷ o ∷ q ∷ []) terminal stan t d t' u' len short trim digit is us =
    ap (λ z. put_mid 19 6 (put_mid (19 - length t) (19 - (19 - length t)) (blank_key m n d) z) u') is
    ∙ placed m n d t u' short
    ∙ (λ i. (m ∷ n ∷ digit i ∷ replicate (16 - length (trim i)) 48) ++ trim i ++ us i)
    ∙ ap (λ z. m ∷ n ∷ request_digit o ∷ z) refl
key_is _ terminal stan t d t' u' len short trim digit is us = absurd (omega arith)
