-- The lines of items, with one more item.
-- for: print::PartLinesDisplay::fmt, print::GroupLinesDisplay::fmt, print::StepLinesDisplay::fmt
use Rattle.std.proofs.Common.{◌≡◌, ℕ, zero, suc, ◌+◌, ◌<◌, List, [], ◌∷◌, ◌++◌, length, take, get_or, ap, ◌∙◌, append_assoc, arith}
use Rattle.std.specs.declared.fmt.Formatter.{Formatter}
use Rattle.std.specs.Fmt.{HasWritten}
use Rattle.std.proofs.lemmas.Grind.{put_two}
use Rattle.flow_load.specs.Image.{Text, lines_text}

lines_more : {A : Type 0} (spell : ℕ → A → Text) (n i : ℕ) (xs : List A) (d : A) → i < length xs →
    lines_text spell n (take i xs) ++ (spell (n + i) (get_or xs i d) ++ 10 ∷ []) ≡ lines_text spell n (take (suc i) xs)
lines_more spell n i [] d h = absurd (omega (arith, h))
lines_more spell n zero (x ∷ xs) d h = ap (λ m. spell m x ++ 10 ∷ []) (let e : n + 0 ≡ n = omega arith in e)
lines_more spell n (suc i) (x ∷ xs) d h =
    let e : n + suc i ≡ n + 1 + i = omega arith in
    append_assoc (spell n x) (10 ∷ lines_text spell (n + 1) (take i xs)) (spell (n + suc i) (get_or xs i d) ++ 10 ∷ [])
    ∙ ap (λ ys. spell n x ++ 10 ∷ ys) (ap (λ m. lines_text spell (n + 1) (take i xs) ++ (spell m (get_or xs i d) ++ 10 ∷ [])) e ∙ lines_more spell (n + 1) i
    xs d (omega arith))

-- one more line written
pub written_more : {W A : Type 0} (took : W → List ℕ → W → Type 0) (spell : ℕ → A → Text) (f g h : Formatter W) (i : ℕ) (xs : List A) (x d : A) →
    i < length xs → x ≡ get_or xs i d
    → HasWritten took f (lines_text spell 0 (take i xs)) g → HasWritten took g (spell i x ++ 10 ∷ []) h →
    HasWritten took f (lines_text spell 0 (take (i + 1) xs)) h
written_more took spell f g h i xs x d lt is before now =
    put_two took f g h (lines_text spell 0 (take i xs)) (spell i x ++ 10 ∷ []) (lines_text spell 0 (take (i + 1) xs)) before now
    (let zero_more : i ≡ 0 + i = omega arith in
    let one_more : suc i ≡ i + 1 = omega arith in
    ap (λ y. lines_text spell 0 (take i xs) ++ (spell i y ++ 10 ∷ [])) is ∙ ap (λ m. lines_text spell 0 (take i xs) ++ (spell m (get_or xs i d) ++ 10 ∷ []))
    zero_more ∙ lines_more spell 0 i xs d lt ∙ ap (λ m. lines_text spell 0 (take m xs)) one_more)
