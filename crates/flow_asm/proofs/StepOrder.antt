-- What follows a step: a selector's call has its pick next, and no other pick stands anywhere.
-- for: places::place
use Rattle.std.proofs.Common.{◌≡◌, ℕ, zero, suc, ◌+◌, ◌<◌, Bool, true, false, ◌⊎◌, inl, inr, List, [], ◌∷◌, ◌++◌, length, drop, Some, refl}
use Rattle.std.proofs.Common.{sym, ap, ◌∙◌, subst}
use Rattle.std.proofs.Common.{arith, append_assoc, length-append, if◌then◌else◌}
use Rattle.std.specs.Prelude.{slice_get}
use Rattle.std.specs.List.{flat_map}
use Rattle.std.proofs.lemmas.List.{append-nil, length-drop}
use Rattle.flow_model.specs.declared.flow.Flow.{Flow}
use Rattle.flow_model.specs.declared.flow.PlacedEntry.{PlacedEntry}
use Rattle.flow_asm.specs.Steps.{Stage, AtCall, AtPick, AtReturn, layout, stages, stages_of_entry, stages_of_group}
use Rattle.flow_asm.proofs.Stages.{front}

-- a call or a return stands first
abbrev pub Goes : List Stage → Type 0
Goes [] = ⊥
Goes (AtCall s ∷ xs) = Unit {0}
Goes (AtPick s ∷ xs) = ⊥
Goes (AtReturn ∷ xs) = Unit {0}

-- the pick of this entry stands first
abbrev pub Picks : PlacedEntry → List Stage → Type 0
Picks s [] = ⊥
Picks s (AtCall t ∷ xs) = ⊥
Picks s (AtPick t ∷ xs) = t ≡ s
Picks s (AtReturn ∷ xs) = ⊥

-- what stands after a call
abbrev pub Follows : PlacedEntry → List Stage → Type 0
Follows s xs = ((s.kind.selector ≡ true) × Picks s xs) ⊎ ((s.kind.selector ≡ false) × Goes xs)

abbrev pub IsOrdered : List Stage → Type 0
IsOrdered [] = Unit {0}
IsOrdered (AtCall s ∷ xs) = Follows s xs × IsOrdered xs
IsOrdered (AtPick s ∷ xs) = Goes xs × IsOrdered xs
IsOrdered (AtReturn ∷ xs) = IsOrdered xs

pub goes_group : (ss : List PlacedEntry) (more : List Stage) → Goes (stages_of_group ss ++ more)
goes_group [] more = tt
goes_group (s ∷ ss) more = by s.kind.selector
  where
    by : (b : Bool) → Goes (((if b then AtCall s ∷ AtPick s ∷ [] else AtCall s ∷ []) ++ stages_of_group ss) ++ more)
    by true = tt
    by false = tt

ordered_group : (ss : List PlacedEntry) (more : List Stage) → IsOrdered more → IsOrdered (stages_of_group ss ++ more)
ordered_group [] more h = h
ordered_group (s ∷ ss) more h = by s.kind.selector refl (goes_group ss more) (ordered_group ss more h)
  where
    by : (b : Bool) → s.kind.selector ≡ b → Goes (stages_of_group ss ++ more) → IsOrdered (stages_of_group ss ++ more) →
        IsOrdered (((if b then AtCall s ∷ AtPick s ∷ [] else AtCall s ∷ []) ++ stages_of_group ss) ++ more)
    by true e g o = (inl (e, refl), (g, o))
    by false e g o = (inr (e, g), o)

ordered_groups : (gs : List (List PlacedEntry)) → IsOrdered (flat_map stages_of_group gs)
ordered_groups [] = tt
ordered_groups (ss ∷ gs) = ordered_group ss (flat_map stages_of_group gs) (ordered_groups gs)

ordered_drop : (k : ℕ) (xs : List Stage) → IsOrdered xs → IsOrdered (drop k xs)
ordered_drop zero xs h = h
ordered_drop (suc k) [] h = tt
ordered_drop (suc k) (AtCall s ∷ xs) h = ordered_drop k xs h.1
ordered_drop (suc k) (AtPick s ∷ xs) h = ordered_drop k xs h.1
ordered_drop (suc k) (AtReturn ∷ xs) h = ordered_drop k xs h

ordered_at : (f : Flow) (k : ℕ) → IsOrdered (drop k (stages f))
ordered_at f k = ordered_drop k (stages f) (ordered_groups (layout f))

pub after_call : (f : Flow) (k : ℕ) (s : PlacedEntry) → slice_get (stages f) k ≡ Some (AtCall s) → Follows s (drop (k + 1) (stages f))
after_call f k s h = (subst IsOrdered (front (stages f) k (AtCall s) h) (ordered_at f k)).0

pub after_pick : (f : Flow) (k : ℕ) (s : PlacedEntry) → slice_get (stages f) k ≡ Some (AtPick s) → Goes (drop (k + 1) (stages f))
after_pick f k s h = (subst IsOrdered (front (stages f) k (AtPick s) h) (ordered_at f k)).0

goes_length : (xs : List Stage) → Goes xs → 0 < length xs
goes_length [] h = absurd h
goes_length (x ∷ xs) h = omega arith

picks_length : (s : PlacedEntry) (xs : List Stage) → Picks s xs → 0 < length xs
picks_length s [] h = absurd h
picks_length s (x ∷ xs) h = omega arith

-- if anything stands at a step, the step is one of the flow's
within : (f : Flow) (k : ℕ) → 0 < length (drop k (stages f)) → k < length (stages f)
within f k h = omega (arith, length-drop k (stages f))

pub goes_within : (f : Flow) (k : ℕ) → Goes (drop k (stages f)) → k < length (stages f)
goes_within f k h = within f k (goes_length (drop k (stages f)) h)

pub picks_within : (f : Flow) (k : ℕ) (s : PlacedEntry) → Picks s (drop k (stages f)) → k < length (stages f)
picks_within f k s h = within f k (picks_length s (drop k (stages f)) h)

-- the last step of all is a return
abbrev Ends : List Stage → Type 0
Ends xs = (ys : List Stage) × (xs ≡ ys ++ AtReturn ∷ [])

ends_after : (a b : List Stage) → Ends b → Ends (a ++ b)
ends_after a b h = (a ++ h.0, ap (λ zs. a ++ zs) h.1 ∙ sym (append_assoc a h.0 (AtReturn ∷ [])))

ends_group : (ss : List PlacedEntry) → Ends (stages_of_group ss)
ends_group [] = ([], refl)
ends_group (s ∷ ss) = ends_after (stages_of_entry s) (stages_of_group ss) (ends_group ss)

ends_groups : (ss : List PlacedEntry) (gs : List (List PlacedEntry)) → Ends (flat_map stages_of_group (ss ∷ gs))
ends_groups ss [] = subst Ends (sym (append-nil (stages_of_group ss))) (ends_group ss)
ends_groups ss (t ∷ gs) = ends_after (stages_of_group ss) (flat_map stages_of_group (t ∷ gs)) (ends_groups t gs)

at_end : (ys : List Stage) → slice_get (ys ++ AtReturn ∷ []) (length ys) ≡ Some AtReturn
at_end [] = refl
at_end (y ∷ ys) = at_end ys

pub last_return : (gs : List (List PlacedEntry)) (n : ℕ) → 0 < length (flat_map stages_of_group gs) → n + 1 ≡ length (flat_map stages_of_group gs) →
    slice_get (flat_map stages_of_group gs) n ≡ Some AtReturn
last_return [] n h e = absurd (omega (arith, h))
last_return (ss ∷ gs) n h e =
    let w = ends_groups ss gs in
    let long : length (flat_map stages_of_group (ss ∷ gs)) ≡ length w.0 + 1 = ap length w.1 ∙ length-append w.0 (AtReturn ∷ []) in
    let same : n ≡ length w.0 = omega arith in
    ap (λ xs. slice_get xs n) w.1 ∙ ap (λ k. slice_get (w.0 ++ AtReturn ∷ []) k) same ∙ at_end w.0
