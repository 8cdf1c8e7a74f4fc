-- for: read::read_input
-- Known bytes that are read to their end.
use Rattle.std.proofs.Common.{◌≡◌, ◌∙◌, ap, sym, append-nil, ℕ, List, [], ◌++◌, Option, Some, None, IfSome, take}
use Rattle.std.specs.Io.KnownBytes.{Consumes, IsAtEnd}

-- where a read gives nothing, the bytes before it are all
pub all_read : (a b c : Option (List ℕ)) (bytes piece : List ℕ) (n : ℕ) → Consumes a b bytes → Consumes b c (take n piece)
    → n ≡ 0 → (n ≡ 0 → IsAtEnd c) → IfSome a (λ xs. bytes ≡ xs)
all_read None b c bytes piece n before last none end = tt
all_read (Some xs) None c bytes piece n before last none end = absurd before
all_read (Some xs) (Some ys) None bytes piece n before last none end = absurd last
all_read (Some xs) (Some ys) (Some zs) bytes piece n before last none end =
    let nothing : ys ≡ [] = last ∙ ap (λ k. take k piece ++ zs) none ∙ end none in
    sym (before ∙ ap (λ l. bytes ++ l) nothing ∙ append-nil bytes)
