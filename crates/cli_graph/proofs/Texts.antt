-- The texts of items, with one more item.
-- for: nodes, paths
use Rattle.std.proofs.Common.{◌≡◌, ℕ, zero, suc, ◌+◌, ◌<◌, List, [], ◌∷◌, ◌++◌, length, take, get_or, ap, ◌∙◌, append_assoc, append-nil, sym, arith}
use Rattle.std.specs.declared.fmt.Formatter.{Formatter}
use Rattle.std.specs.Fmt.{HasWritten}
use Rattle.std.proofs.lemmas.Grind.{put_two}
use Rattle.cli_graph.specs.Picture.{Text, texts}

texts_more : {A : Type 0} (spell : ℕ → A → Text) (n i : ℕ) (xs : List A) (d : A) → i < length xs →
    texts spell n (take i xs) ++ spell (n + i) (get_or xs i d) ≡ texts spell n (take (suc i) xs)
texts_more spell n i [] d h = absurd (omega (arith, h))
texts_more spell n zero (x ∷ xs) d h = let e : n + 0 ≡ n = omega arith in ap (λ m. spell m x) e ∙ sym (append-nil (spell n x))
texts_more spell n (suc i) (x ∷ xs) d h =
    let e : n + suc i ≡ n + 1 + i = omega arith in
    append_assoc (spell n x) (texts spell (n + 1) (take i xs)) (spell (n + suc i) (get_or xs i d))
    ∙ ap (λ ys. spell n x ++ ys) (ap (λ m. texts spell (n + 1) (take i xs) ++ spell m (get_or xs i d)) e ∙ texts_more spell (n + 1) i xs d (omega arith))

-- one more text written
pub written_more : {W A : Type 0} (took : W → List ℕ → W → Type 0) (spell : ℕ → A → Text) (f g h : Formatter W) (i : ℕ) (xs : List A) (x d : A) →
    i < length xs → x ≡ get_or xs i d
    → HasWritten took f (texts spell 0 (take i xs)) g → HasWritten took g (spell i x) h → HasWritten took f (texts spell 0 (take (i + 1) xs)) h
written_more took spell f g h i xs x d lt is before now =
    put_two took f g h (texts spell 0 (take i xs)) (spell i x) (texts spell 0 (take (i + 1) xs)) before now
    (let zero_more : i ≡ 0 + i = omega arith in
    let one_more : suc i ≡ i + 1 = omega arith in
    ap (λ y. texts spell 0 (take i xs) ++ spell i y) is ∙ ap (λ m. texts spell 0 (take i xs) ++ spell m (get_or xs i d)) zero_more ∙ texts_more spell 0 i xs
    d lt ∙ ap (λ m. texts spell 0 (take m xs)) one_more)
