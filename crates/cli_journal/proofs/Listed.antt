-- The entries of a context, one after the other.
-- for: context::push_entries
use Rattle.std.proofs.Common.{◌≡◌, ℕ, zero, suc, ◌+◌, List, [], ◌∷◌, ◌++◌, drop, Some, option_map, slice_get, sym, ap, ◌∙◌, append_assoc, add-one}
use Rattle.std.specs.List.{flat_map}
use Rattle.sw_context.specs.Pairs.{Pairs}
use Rattle.sw_json.proofs.Contexts.{Named}

front_is : (es : Pairs) (i : ℕ) (name value : List ℕ) → Some name ≡ option_map (λ (e : Named). e.0) (slice_get es i) →
    Some value ≡ option_map (λ (e : Named). e.1) (slice_get es i) → drop i es ≡ (name, value) ∷ drop (suc i) es
front_is [] i name value n v = cc
front_is (e ∷ es) zero name value n v =
    let first : e.0 ≡ name = cc in
    let second : e.1 ≡ value = cc in
    ap (λ (z : Named). z ∷ es) (λ i. (first i, second i))
front_is (e ∷ es) (suc i) name value n v = front_is es i name value n v

-- one more entry
pub entry_more : (f : Named → List ℕ) (es : Pairs) (i : ℕ) (name value text new total : List ℕ) →
    Some name ≡ option_map (λ (e : Named). e.0) (slice_get es i) → Some value ≡ option_map (λ (e : Named). e.1) (slice_get es i)
    → text ++ flat_map f (drop i es) ≡ total → new ≡ text ++ f (name, value) → new ++ flat_map f (drop (i + 1) es) ≡ total
entry_more f es i name value text new total n v before is =
    rw add-one
    (ap (λ (t : List ℕ). t ++ flat_map f (drop (suc i) es)) is
    ∙ append_assoc text (f (name, value)) (flat_map f (drop (suc i) es))
    ∙ sym (ap (λ (xs : Pairs). text ++ flat_map f xs) (front_is es i name value n v))
    ∙ before)
