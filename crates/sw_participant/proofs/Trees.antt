-- No two values are shown alike.
-- for: laws::shown_apart
use Rattle.std.proofs.Common.{◌≡◌, ℕ, List, [], ◌∷◌, ◌++◌, drop, slice_index_or, refl, sym, ap, ◌∙◌, append_assoc, append-nil, arith}
use base.Stored.{Gv, gnil, gnum, gcons}
use Rattle.std.specs.Coded.{Coded}
use Rattle.sw_participant.specs.Shown.{tokens, shown}

first : (a b : ℕ) (r s : List ℕ) → a ∷ r ≡ b ∷ s → a ≡ b
first a b r s h = ap (λ l. slice_index_or l 0 0) h

rest : (a b : ℕ) (r s : List ℕ) → a ∷ r ≡ b ∷ s → r ≡ s
rest a b r s h = ap (drop 1) h

pub tokens_split : (a b : Gv) (r s : List ℕ) → tokens a ++ r ≡ tokens b ++ s → (a ≡ b) × (r ≡ s)
tokens_split gnil gnil r s h = (refl, rest 0 0 r s h)
tokens_split gnil (gnum n) r s h = absurd (omega (arith, first 0 1 r (n ∷ s) h))
tokens_split gnil (gcons c d) r s h = absurd (omega (arith, first 0 2 r ((tokens c ++ tokens d) ++ s) h))
tokens_split (gnum n) gnil r s h = absurd (omega (arith, first 1 0 (n ∷ r) s h))
tokens_split (gnum n) (gnum m) r s h = let t = rest 1 1 (n ∷ r) (m ∷ s) h in (ap gnum (first n m r s t), rest n m r s t)
tokens_split (gnum n) (gcons c d) r s h = absurd (omega (arith, first 1 2 (n ∷ r) ((tokens c ++ tokens d) ++ s) h))
tokens_split (gcons a b) gnil r s h = absurd (omega (arith, first 2 0 ((tokens a ++ tokens b) ++ r) s h))
tokens_split (gcons a b) (gnum n) r s h = absurd (omega (arith, first 2 1 ((tokens a ++ tokens b) ++ r) (n ∷ s) h))
tokens_split (gcons a b) (gcons c d) r s h =
    let t = rest 2 2 ((tokens a ++ tokens b) ++ r) ((tokens c ++ tokens d) ++ s) h in
    let left = tokens_split a c (tokens b ++ r) (tokens d ++ s) (sym (append_assoc (tokens a) (tokens b) r) ∙ t ∙ append_assoc (tokens c) (tokens d) s) in
    let right = tokens_split b d r s left.1 in
    (λ i. gcons (left.0 i) (right.0 i), right.1)

pub shown_once : {A : Type 0} (coded : Coded A) (x y : A) → shown coded x ≡ shown coded y → x ≡ y
shown_once coded x y h =
    coded.inj x y (tokens_split (coded.code x) (coded.code y) [] [] (append-nil (shown coded x) ∙ h ∙ sym (append-nil (shown coded y)))).0
