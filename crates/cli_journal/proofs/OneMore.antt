-- The texts of items, with one more item.
-- for: journal::push_rows, journal::push_advices, left_out::push_left_out
use Rattle.std.proofs.Common.{◌≡◌, ℕ, ◌+◌, ◌<◌, List, ◌∷◌, ◌++◌, length, drop, get_or, sym, ap, ◌∙◌, append_assoc}
use Rattle.std.specs.List.{flat_map}
use Rattle.std.proofs.lemmas.List.{drop_more}

pub item_more : {A : Type 0} (f : A → List ℕ) (xs : List A) (i : ℕ) (x : A) (text new total : List ℕ) → i < length xs → x ≡ get_or xs i x →
    text ++ flat_map f (drop i xs) ≡ total → new ≡ text ++ f x → new ++ flat_map f (drop (i + 1) xs) ≡ total
item_more {A} f xs i x text new total lt at before is =
    ap (λ (t : List ℕ). t ++ flat_map f (drop (i + 1) xs)) is
    ∙ append_assoc text (f x) (flat_map f (drop (i + 1) xs))
    ∙ ap (λ (y : A). text ++ flat_map f (y ∷ drop (i + 1) xs)) at
    ∙ sym (ap (λ (ys : List A). text ++ flat_map f ys) (drop_more xs i x lt))
    ∙ before
