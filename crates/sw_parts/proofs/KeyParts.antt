-- Parts put one after the other.
-- for: limits::key_of
use Rattle.std.proofs.Common.{◌≡◌, ℕ, List, [], ◌∷◌, ◌++◌, length, drop, refl, ap, subst, ◌∙◌, append-nil, length-append, arith}
use Rattle.std.specs.Prelude.{replicate}
use Rattle.sw_messages.specs.Placing.{put_at}

pub put_next : (xs r ys : List ℕ) → put_at (length xs) ys (xs ++ r) ≡ (xs ++ ys) ++ drop (length ys) r
put_next [] r ys = refl
put_next (x ∷ xs) r ys = ap (λ l. x ∷ l) (put_next xs r ys)

at_end : (xs r ys : List ℕ) (n : ℕ) → length xs ≡ n → put_at n ys (xs ++ r) ≡ (xs ++ ys) ++ drop (length ys) r
at_end xs r ys n h = subst (λ k. put_at k ys (xs ++ r) ≡ (xs ++ ys) ++ drop (length ys) r) h (put_next xs r ys)

pub four : (a b c d : List ℕ) → length a ≡ 19 → length b ≡ 8 → length c ≡ 6 → length d ≡ 10
    → put_at 33 d (put_at 27 c (put_at 19 b (put_at 0 a (replicate 43 32)))) ≡ ((a ++ b) ++ c) ++ d
four a b c d la lb lc ld =
    let r0 : List ℕ = drop (length a) (replicate 43 32) in
    let r1 : List ℕ = drop (length b) r0 in
    let r2 : List ℕ = drop (length c) r1 in
    let lab : length (a ++ b) ≡ 27 = omega (arith, length-append a b, la, lb) in
    let labc : length ((a ++ b) ++ c) ≡ 33 = omega (arith, length-append (a ++ b) c, lab, lc) in
    ap (λ z. put_at 33 d (put_at 27 c z)) (at_end a r0 b 19 la)
    ∙ ap (put_at 33 d) (at_end (a ++ b) r1 c 27 lab)
    ∙ at_end ((a ++ b) ++ c) r2 d 33 labc
    ∙ (λ i. (((a ++ b) ++ c) ++ d) ++ drop (ld i) (drop (lc i) (drop (lb i) (drop (la i) (replicate 43 32)))))
    ∙ append-nil (((a ++ b) ++ c) ++ d)
