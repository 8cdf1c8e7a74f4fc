-- Taking out the keys that are due, one after the other, leaves the others.
-- for: mux::Mux::due
use Rattle.std.proofs.Common.{◌≡◌, ℕ, Bool, true, false, cond, not, List, [], ◌∷◌, map, filter, Some, None, refl, ap, ◌∙◌}
use Rattle.std.specs.Map.{values_of}
use Rattle.sw_mux.specs.declared.key.Key.{Key}
use Rattle.sw_mux.specs.Waiting.{WaitingKeys, without, without_all, due, later, is_due}
use Rattle.sw_mux.specs.Numbered.{Numbered, key_eq, number_of, HaveOwnKeys}
use Rattle.sw_mux.proofs.Numbers.{back, same_key}

-- a key that is none of these
abbrev IsNoneOf : Key → List Key → Type 0
IsNoneOf k [] = Unit {0}
IsNoneOf k (q ∷ qs) = (key_eq k q ≡ false) × IsNoneOf k qs

keeps_first : (ks : List Key) (e : Key × ℕ) (es : WaitingKeys) → IsNoneOf e.0 ks → without_all ks (e ∷ es) ≡ e ∷ without_all ks es
keeps_first [] e es h = refl
keeps_first (k ∷ ks) e es h =
    ap (λ b. without_all ks (cond b es (e ∷ without k.bytes es))) h.0 ∙ keeps_first ks e (without k.bytes es) h.1

none_due : (tick : ℕ) (k : Key) (es : Numbered) → number_of k es ≡ None → IsNoneOf k (due tick (values_of es))
none_due tick k [] h = tt
none_due tick k (e ∷ es) h = by (is_due tick e.1) (key_eq e.1.0 k) refl (none_due tick k es) h
  where
    by : (b d : Bool) → key_eq e.1.0 k ≡ d → (number_of k es ≡ None → IsNoneOf k (due tick (values_of es))) → cond d (Some e.0) (number_of k es) ≡ None
        → IsNoneOf k (map (λ z. z.0) (cond b (e.1 ∷ filter (is_due tick) (values_of es)) (filter (is_due tick) (values_of es))))
    by b true is go h = absurd cc
    by true false is go h = (back e.1.0 k is, go h)
    by false false is go h = go h

pub due_out : (tick : ℕ) (es : Numbered) → HaveOwnKeys es → without_all (due tick (values_of es)) (values_of es) ≡ later tick (values_of es)
due_out tick [] own = refl
due_out tick (e ∷ es) own = by (is_due tick e.1) (due_out tick es own.1)
  where
    rest : List Key
    rest = due tick (values_of es)

    by : (b : Bool) → without_all (due tick (values_of es)) (values_of es) ≡ later tick (values_of es)
        → without_all (map (λ z. z.0) (cond b (e.1 ∷ filter (is_due tick) (values_of es)) (filter (is_due tick) (values_of es)))) (e.1 ∷ values_of es)
        ≡ cond (not b) (e.1 ∷ later tick (values_of es)) (later tick (values_of es))
    by true go = ap (λ b. without_all (due tick (values_of es)) (cond b (values_of es) (e.1 ∷ without e.1.0.bytes (values_of es)))) (same_key e.1.0) ∙ go
    by false go = keeps_first (due tick (values_of es)) e.1 (values_of es) (none_due tick e.1.0 es own.0) ∙ ap (λ z. e.1 ∷ z) go
