-- What stands at a step, and where a group's steps begin.
-- for: places::place, code::Code::look, code::Code::find_group
use Rattle.std.proofs.Common.{◌≡◌, ℕ, zero, suc, ◌+◌, ◌<◌, ◌≤◌, List, [], ◌∷◌, ◌++◌, length, map, take, drop, get_or, Option, Some, None, refl, sym, ap, ◌∙◌}
use Rattle.std.proofs.Common.{subst, arith, length-append}
use Rattle.std.specs.Prelude.{slice_get}
use Rattle.std.specs.List.{flat_map}
use Rattle.std.proofs.lemmas.List.{drop_more, drop_at, drop-drop, length-map}
use Rattle.std.proofs.lemmas.Option.{get_or_from_slice_get, none-some, same_Some, slice_get-get_or, slice_get_within}
use Rattle.flow_model.specs.declared.flow.Flow.{Flow}
use Rattle.flow_model.specs.declared.flow.Group.{Group}
use Rattle.flow_model.specs.declared.flow.PlacedEntry.{PlacedEntry}
use Rattle.flow_model.specs.declared.numbering.Part.{Part}
use Rattle.flow_model.specs.Places.{parts_of}
use Rattle.flow_asm.specs.declared.code.GroupStart.{GroupStart}
use Rattle.flow_asm.specs.declared.code.Step.{Step}
use Rattle.flow_asm.specs.declared.code.Step.TheVariants.{Call, Pick, Return}
use Rattle.flow_asm.specs.Steps.{Stage, AtCall, AtPick, AtReturn, first_step, groups_from, layout, stages, stages_of_group, starts_from, starts_of, step_of}
use Rattle.flow_asm.specs.Steps.{steps_of}
use Rattle.flow_asm.specs.Places.{group_at}

-- the front of what is left at a step
pub front : {X : Type 0} (xs : List X) (k : ℕ) (x : X) → slice_get xs k ≡ Some x → drop k xs ≡ x ∷ drop (k + 1) xs
front xs k x h =
    let e : get_or xs k x ≡ x = get_or_from_slice_get xs k x x h in
    drop_more xs k x (slice_get_within xs k x h) ∙ ap (λ y. y ∷ drop (k + 1) xs) e

-- the step is that of the stage
abbrev ShowsStep : Option Stage → Step → Type 0
ShowsStep None x = ⊥
ShowsStep (Some (AtCall s)) x = x ≡ Call s.participant
ShowsStep (Some (AtPick s)) x = x ≡ Pick s.participant
ShowsStep (Some AtReturn) x = x ≡ Return

shows : (xs : List Stage) (k : ℕ) (x : Step) → slice_get (map step_of xs) k ≡ Some x → ShowsStep (slice_get xs k) x
shows [] k x h = absurd (none-some x h)
shows (AtCall s ∷ xs) zero x h = sym (same_Some _ _ h)
shows (AtPick s ∷ xs) zero x h = sym (same_Some _ _ h)
shows (AtReturn ∷ xs) zero x h = sym (same_Some _ _ h)
shows (s ∷ xs) (suc k) x h = shows xs k x h

pub call_shown : (xs : List Stage) (k p : ℕ) → slice_get (map step_of xs) k ≡ Some (Call p) → (s : PlacedEntry) × (slice_get xs k ≡ Some (AtCall s))
    × (s.participant ≡ p)
call_shown xs k p h = by (slice_get xs k) refl (shows xs k (Call p) h)
  where
    by : (o : Option Stage) → slice_get xs k ≡ o → ShowsStep o (Call p) → (s : PlacedEntry) × (slice_get xs k ≡ Some (AtCall s)) × (s.participant ≡ p)
    by None e w = absurd w
    by (Some (AtCall s)) e w = (s, e, cc)
    by (Some (AtPick s)) e w = absurd cc
    by (Some AtReturn) e w = absurd cc

pub pick_shown : (xs : List Stage) (k p : ℕ) → slice_get (map step_of xs) k ≡ Some (Pick p) → (s : PlacedEntry) × (slice_get xs k ≡ Some (AtPick s))
    × (s.participant ≡ p)
pick_shown xs k p h = by (slice_get xs k) refl (shows xs k (Pick p) h)
  where
    by : (o : Option Stage) → slice_get xs k ≡ o → ShowsStep o (Pick p) → (s : PlacedEntry) × (slice_get xs k ≡ Some (AtPick s)) × (s.participant ≡ p)
    by None e w = absurd w
    by (Some (AtCall s)) e w = absurd cc
    by (Some (AtPick s)) e w = (s, e, cc)
    by (Some AtReturn) e w = absurd cc

pub return_shown : (xs : List Stage) (k : ℕ) → slice_get (map step_of xs) k ≡ Some Return → slice_get xs k ≡ Some AtReturn
return_shown xs k h = by (slice_get xs k) refl (shows xs k Return h)
  where
    by : (o : Option Stage) → slice_get xs k ≡ o → ShowsStep o Return → slice_get xs k ≡ Some AtReturn
    by None e w = absurd w
    by (Some (AtCall s)) e w = absurd cc
    by (Some (AtPick s)) e w = absurd cc
    by (Some AtReturn) e w = e

-- the step that was read
pub read_step : (f : Flow) (steps : List Step) (k : ℕ) (d x : Step) → steps ≡ steps_of f → k < length steps → get_or steps k d ≡ x →
    slice_get (map step_of (stages f)) k ≡ Some x
read_step f steps k d x e h r = ap (λ xs. slice_get xs k) (sym e) ∙ slice_get-get_or steps k d h ∙ ap Some r

pub length-steps : (f : Flow) → length (steps_of f) ≡ length (stages f)
length-steps f = length-map (stages f) step_of

-- from a group's first step on
pub group_front : (gs : List (List PlacedEntry)) (g : ℕ) → g < length gs →
    drop (length (flat_map stages_of_group (take g gs))) (flat_map stages_of_group gs) ≡ stages_of_group (group_at gs g) ++ flat_map stages_of_group
    (drop (suc g) gs)
group_front [] g h = absurd (omega (arith, h))
group_front (ss ∷ gs) zero h = refl
group_front (ss ∷ gs) (suc g) h =
    let a : List Stage = stages_of_group ss in
    let b : List Stage = flat_map stages_of_group gs in
    let t : List Stage = flat_map stages_of_group (take g gs) in
    ap (λ n. drop n (a ++ b)) (length-append a t) ∙ sym (drop-drop (length t) (length a) (a ++ b)) ∙ ap (λ l. drop (length t) l)
    (drop_at a b (length a) refl) ∙ group_front gs g (omega arith)

pub length-groups_from : (ps : List Part) (g : ℕ) (xs : List Group) → length (groups_from ps g xs) ≡ length xs
length-groups_from ps g [] = refl
length-groups_from ps g (x ∷ xs) = ap suc (length-groups_from ps (g + 1) xs)

length-starts_from : (f : Flow) (g : ℕ) (xs : List Group) → length (starts_from f g xs) ≡ length xs
length-starts_from f g [] = refl
length-starts_from f g (x ∷ xs) = ap suc (length-starts_from f (g + 1) xs)

pub length-starts : (f : Flow) → length (starts_of f) ≡ length (layout f)
length-starts f = length-starts_from f 0 f.groups ∙ sym (length-groups_from (parts_of f) 0 f.groups)

first_from : (f : Flow) (g k : ℕ) (xs : List Group) (d : GroupStart) → k < length xs → (get_or (starts_from f g xs) k d).first ≡ first_step f (g + k)
first_from f g k [] d h = absurd (omega (arith, h))
first_from f g zero (x ∷ xs) d h = ap (first_step f) (let e : g ≡ g + 0 = omega arith in e)
first_from f g (suc k) (x ∷ xs) d h = first_from f (g + 1) k xs d (omega arith) ∙ ap (first_step f) (let e : g + 1 + k ≡ g + suc k = omega arith in e)

-- the first step that the groups' table has
pub first_at : (f : Flow) (k : ℕ) (d : GroupStart) → k < length (layout f) → (get_or (starts_of f) k d).first ≡ first_step f k
first_at f k d h =
    first_from f 0 k f.groups d (subst (λ n. k < n) (length-groups_from (parts_of f) 0 f.groups) h) ∙ ap (first_step f) (let e : 0 + k ≡ k = omega arith in e)

pub group_past : (gs : List (List PlacedEntry)) (g : ℕ) → length gs ≤ g → group_at gs g ≡ []
group_past [] g h = refl
group_past (ss ∷ gs) zero h = absurd (omega (arith, h))
group_past (ss ∷ gs) (suc g) h = group_past gs g (omega (arith, h))
