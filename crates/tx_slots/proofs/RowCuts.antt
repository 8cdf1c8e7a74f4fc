-- The rows from a place on.
use Rattle.std.proofs.Common.{◌≡◌, ℕ, ◌+◌, ◌<◌, List, ◌∷◌, length, drop, get_or, sym, ◌∙◌, ap}
use Rattle.std.proofs.lemmas.List.{drop_more}
use Rattle.tx_history.specs.declared.journal.Row.{Row}

pub at_row : (rows : List (ℕ × Row)) (i : ℕ) (r : ℕ × Row) → i < length rows → r ≡ get_or rows i r → drop i rows ≡ r ∷ drop (i + 1) rows
at_row rows i r within is = drop_more rows i r within ∙ ap (λ (y : ℕ × Row). y ∷ drop (i + 1) rows) (sym is)
