-- The members of the codes, one after the other.
-- for: line::declined_text
use Rattle.std.proofs.Common.{◌≡◌, ℕ, List, [], ◌∷◌, ◌++◌, map, sym, ap, ◌∙◌, append_assoc, append-nil}
use Rattle.std.proofs.lemmas.List.{map-append}
use Rattle.std.specs.Borrow.{Bor}
use Rattle.sw_stats.specs.Tallies.{Declined}
use Rattle.sw_stats.specs.Line.{declined_member, declined_text}

pub declined_more : (es : Declined) (e : List ℕ × ℕ) → declined_text (es ++ e ∷ []) ≡ declined_text es ++ declined_member e
declined_more [] e = append-nil (declined_member e)
declined_more (d ∷ es) e = ap (λ (l : List ℕ). declined_member d ++ l) (declined_more es e)
    ∙ sym (append_assoc (declined_member d) (declined_text es) (declined_member e))

abbrev pub plain_member : Bor (List ℕ) × Bor ℕ → List ℕ × ℕ
plain_member e = (e.0.now, e.1.now)

-- of those that an iterator gave
pub next_member : (es : List (Bor (List ℕ) × Bor ℕ)) (e : Bor (List ℕ) × Bor ℕ) (text more : List ℕ) → text ≡ declined_text (map plain_member es) →
    more ≡ text ++ declined_member (plain_member e)
    → more ≡ declined_text (map plain_member (es ++ e ∷ []))
next_member es e text more so_far added =
    added ∙ (ap (λ (l : List ℕ). l ++ declined_member (plain_member e)) so_far
    ∙ (sym (declined_more (map plain_member es) (plain_member e)) ∙ ap declined_text (sym (map-append plain_member es (e ∷ [])))))
