-- Walking along a group's steps finds its calls.
-- for: places::last_before, places::step_at
use Rattle.std.proofs.Common.{◌≡◌, ℕ, zero, suc, ◌+◌, ◌-◌, ◌<◌, ◌≤◌, Bool, true, false, ⊎_elim, List, [], ◌∷◌, ◌++◌, length, map, take, drop, get_or, Option}
use Rattle.std.proofs.Common.{Some, None, refl, sym, ap, ◌∙◌, subst, arith, if◌then◌else◌}
use Rattle.std.specs.Prelude.{◌==◌, slice_get, nat_lt}
use Rattle.std.specs.List.{flat_map}
use Rattle.std.proofs.lemmas.Bool.{cases_lt, le-ltb}
use Rattle.std.proofs.lemmas.Bool.Decides.{Decides-ltb, nat_tests}
use Rattle.std.proofs.lemmas.List.{drop-map, map-append}
use Rattle.std.proofs.lemmas.Option.{none-some, same_Some}
use Rattle.flow_model.specs.declared.flow.Flow.{Flow}
use Rattle.flow_model.specs.declared.flow.Entry.{Entry}
use Rattle.flow_model.specs.declared.flow.Group.{Group}
use Rattle.flow_model.specs.declared.flow.PlacedEntry.{PlacedEntry}
use Rattle.flow_model.specs.declared.numbering.Part.{Part}
use Rattle.flow_model.specs.Places.{parts_of, placed_entry, placed_from}
use Rattle.flow_asm.specs.declared.code.GroupStart.{GroupStart}
use Rattle.flow_asm.specs.declared.code.Step.{Step}
use Rattle.flow_asm.specs.Steps.{Stage, AtCall, AtPick, first_step, groups_from, layout, stages, stages_of_entry, stages_of_group}
use Rattle.flow_asm.specs.Steps.{starts_of, step_of, steps_of}
use Rattle.flow_asm.specs.Places.{call_of, call_step, call_within, group_at, place_at, place_of}
use Rattle.flow_asm.specs.CallSearch.{call_from}
use Rattle.flow_asm.proofs.Stages.{first_at, group_front, group_past, length-starts}

-- what the walk finds in a group
abbrev found_in : ℕ → List PlacedEntry → ℕ → Option ℕ
found_in n ss i = if nat_lt i (length ss) then Some (n + call_within ss i) else None

lt_next : (i n : ℕ) → nat_lt (suc i) (suc n) ≡ nat_lt i n
lt_next i n = ⊎_elim (λ (h : i < n). (Decides-ltb (suc i) (suc n)).1 (omega (arith, h)) ∙ sym ((Decides-ltb i n).1 h))
    (λ (h : n ≤ i). le-ltb (suc i) (suc n) (omega (arith, h)) ∙ sym (le-ltb i n h)) (cases_lt i n)

found_group : (n : ℕ) (ss : List PlacedEntry) (i : ℕ) (more : List Step) → call_from n i (map step_of (stages_of_group ss) ++ more) ≡ found_in n ss i
found_group n [] i more = sym (ap (λ (b : Bool). if b then Some (n + call_within [] i) else None) (le-ltb i 0 (omega arith)))
found_group n (s ∷ ss) zero more = by s.kind.selector
  where
    here : Some n ≡ found_in n (s ∷ ss) 0
    here = ap Some (let e : n ≡ n + 0 = omega arith in e) ∙ sym
        (ap (λ (b : Bool). if b then Some (n + 0) else None) ((Decides-ltb 0 (suc (length ss))).1 (omega arith)))

    by : (b : Bool) → call_from n 0 (map step_of ((if b then AtCall s ∷ AtPick s ∷ [] else AtCall s ∷ []) ++ stages_of_group ss) ++ more)
        ≡ found_in n (s ∷ ss) 0
    by true = here
    by false = here
found_group n (s ∷ ss) (suc j) more = by s.kind.selector (λ m. found_group m ss j more)
  where
    next : (suc j == 0) ≡ false
    next = grind (arith, nat_tests)

    less : suc j - 1 ≡ j
    less = omega arith

    rest : List Step
    rest = map step_of (stages_of_group ss) ++ more

    Within : Bool → ℕ
    Within b = length ((if b then AtCall s ∷ AtPick s ∷ [] else AtCall s ∷ []) ++ flat_map stages_of_entry (take j ss))

    end : (b : Bool) (m : ℕ) → m + call_within ss j ≡ n + Within b → found_in m ss j ≡ (if nat_lt (suc j) (suc (length ss)) then Some (n + Within b) else None)
    end b m e = ap (λ k. if nat_lt j (length ss) then Some k else None) e ∙ ap (λ (t : Bool). if t then Some (n + Within b) else None)
        (sym (lt_next j (length ss)))

    by : (b : Bool) → ((m : ℕ) → call_from m j rest ≡ found_in m ss j) →
        call_from n (suc j) (map step_of ((if b then AtCall s ∷ AtPick s ∷ [] else AtCall s ∷ []) ++ stages_of_group ss) ++ more)
        ≡ (if nat_lt (suc j) (suc (length ss)) then Some (n + Within b) else None)
    by true ih =
        ap (λ (t : Bool). if t then Some n else call_from (n + 1 + 1) (suc j - 1) rest) next ∙ ap (λ i. call_from (n + 1 + 1) i rest) less ∙ ih (n + 1 + 1)
        ∙ end true (n + 1 + 1) (omega arith)
    by false ih =
        ap (λ (t : Bool). if t then Some n else call_from (n + 1) (suc j - 1) rest) next ∙ ap (λ i. call_from (n + 1) i rest) less ∙ ih (n + 1)
        ∙ end false (n + 1) (omega arith)

-- a group's steps, from its first one on
group_steps_at : (f : Flow) (g : ℕ) → g < length (layout f) → drop (first_step f g) (steps_of f) ≡ map step_of (stages_of_group (group_at (layout f) g))
    ++ map step_of (flat_map stages_of_group (drop (suc g) (layout f)))
group_steps_at f g h = drop-map step_of (first_step f g) (stages f) ∙ ap (map step_of) (group_front (layout f) g h)
    ∙ map-append step_of (stages_of_group (group_at (layout f) g)) (flat_map stages_of_group (drop (suc g) (layout f)))

-- counted from a first step
abbrev pub onto : ℕ → Option ℕ → Option ℕ
onto first None = None
onto first (Some n) = Some (first + n)

onto_found : (b : Bool) (first within : ℕ) (o : Option ℕ) → o ≡ (if b then Some (0 + within) else None) →
    onto first o ≡ (if b then Some (first + within) else None)
onto_found true first within o h = ap (onto first) h ∙ ap Some (let e : first + (0 + within) ≡ first + within = omega arith in e)
onto_found false first within o h = ap (onto first) h

pub called_at : (f : Flow) (g i first : ℕ) (steps rest : List Step) (o : Option ℕ) → g < length (layout f) → first ≡ first_step f g → steps ≡ steps_of f →
    rest ≡ drop first steps → o ≡ call_from 0 i rest → onto first o ≡ call_of f g i
called_at f g i first steps rest o h a b r e =
    let cut : rest ≡ map step_of (stages_of_group (group_at (layout f) g)) ++ map step_of (flat_map stages_of_group (drop (suc g) (layout f))) =
    r ∙ ap (λ n. drop n steps) a ∙ ap (drop (first_step f g)) b ∙ group_steps_at f g h in
    let found : o ≡ found_in 0 (group_at (layout f) g) i = e ∙ ap (call_from 0 i) cut ∙ found_group 0 (group_at (layout f) g) i _ in
    onto_found (nat_lt i (length (group_at (layout f) g))) first (call_within (group_at (layout f) g) i) o found
    ∙ ap (λ n. if nat_lt i (length (group_at (layout f) g)) then Some (n + call_within (group_at (layout f) g) i) else None) a

pub not_called : (f : Flow) (g i : ℕ) → length (layout f) ≤ g → None ≡ call_of f g i
not_called f g i h = sym (ap (λ (ss : List PlacedEntry). if nat_lt i (length ss) then Some (call_step f g i) else None) (group_past (layout f) g h)
    ∙ ap (λ (b : Bool). if b then Some (call_step f g i) else None) (le-ltb i 0 (omega arith)))

-- a call's place
stage_get : (ss : List PlacedEntry) (more : List Stage) (j : ℕ) (s : PlacedEntry) → slice_get ss j ≡ Some s →
    slice_get (stages_of_group ss ++ more) (call_within ss j) ≡ Some (AtCall s)
stage_get [] more j s h = absurd (none-some s h)
stage_get (t ∷ ss) more zero s h = by t.kind.selector
  where
    same : Some (AtCall t) ≡ Some (AtCall s)
    same = ap (λ u. Some (AtCall u)) (same_Some t s h)

    by : (b : Bool) → slice_get (((if b then AtCall t ∷ AtPick t ∷ [] else AtCall t ∷ []) ++ stages_of_group ss) ++ more) 0 ≡ Some (AtCall s)
    by true = same
    by false = same
stage_get (t ∷ ss) more (suc j) s h = by t.kind.selector (stage_get ss more j s h)
  where
    by : (b : Bool) → slice_get (stages_of_group ss ++ more) (call_within ss j) ≡ Some (AtCall s) →
        slice_get (((if b then AtCall t ∷ AtPick t ∷ [] else AtCall t ∷ []) ++ stages_of_group ss) ++ more)
        (length ((if b then AtCall t ∷ AtPick t ∷ [] else AtCall t ∷ []) ++ flat_map stages_of_entry (take j ss))) ≡ Some (AtCall s)
    by true e = e
    by false e = e

-- the placed entry at an index, which has that place
record PlacedAt (ss : List PlacedEntry) (g i : ℕ) : Type 0 where
  placed : PlacedEntry
  is : slice_get ss i ≡ Some placed
  group : placed.group ≡ g
  index : placed.index ≡ i

placed_within : (parts : List Part) (g i j : ℕ) (es : List Entry) → j < length (placed_from parts g i es) →
    (s : PlacedEntry) × (slice_get (placed_from parts g i es) j ≡ Some s) × (s.group ≡ g) × (s.index ≡ i + j)
placed_within parts g i j [] h = absurd (omega (arith, h))
placed_within parts g i zero (e ∷ es) h = (placed_entry parts g i e, refl, refl, (let z : i ≡ i + 0 = omega arith in z))
placed_within parts g i (suc j) (e ∷ es) h =
    let w = placed_within parts g (i + 1) j es (omega (arith, h)) in
    (w.0, w.1, w.2, w.3 ∙ (let z : i + 1 + j ≡ i + suc j = omega arith in z))

placed_at : (parts : List Part) (h g i : ℕ) (gs : List Group) → i < length (group_at (groups_from parts h gs) g) →
    PlacedAt (group_at (groups_from parts h gs) g) (h + g) i
placed_at parts h g i [] l = absurd (omega (arith, l))
placed_at parts h zero i (x ∷ gs) l =
    let w = placed_within parts h 0 i x.entries l in
    record { placed = w.0; is = w.1; group = w.2 ∙ (let z : h ≡ h + 0 = omega arith in z); index = w.3 ∙ (let z : 0 + i ≡ i = omega arith in z) }
placed_at parts h (suc g) i (x ∷ gs) l =
    let w = placed_at parts (h + 1) g i gs l in
    record { placed = w.placed; is = w.is; group = w.group ∙ (let z : h + 1 + g ≡ h + suc g = omega arith in z); index = w.index }

get_after : {X : Type 0} (k m : ℕ) (xs : List X) → slice_get (drop k xs) m ≡ slice_get xs (k + m)
get_after zero m xs = ap (slice_get xs) (let z : m ≡ 0 + m = omega arith in z)
get_after (suc k) m [] = refl
get_after (suc k) m (x ∷ xs) = get_after k m xs ∙ ap (slice_get (x ∷ xs)) (let z : suc (k + m) ≡ suc k + m = omega arith in z)

some_group : (gs : List (List PlacedEntry)) (g i : ℕ) → i < length (group_at gs g) → g < length gs
some_group [] g i h = absurd (omega (arith, h))
some_group (ss ∷ gs) zero i h = omega arith
some_group (ss ∷ gs) (suc g) i h = omega (arith, some_group gs g i h)

call_placed : (f : Flow) (g i : ℕ) → i < length (group_at (layout f) g) → place_of f (call_step f g i) ≡ Some (g, i)
call_placed f g i h =
    let ss : List PlacedEntry = group_at (layout f) g in
    let more : List Stage = flat_map stages_of_group (drop (suc g) (layout f)) in
    let placed = placed_at (parts_of f) 0 g i f.groups h in
    let stage : slice_get (stages f) (call_step f g i) ≡ Some (AtCall placed.placed) = sym (get_after (first_step f g) (call_within ss i) (stages f))
    ∙ ap (λ xs. slice_get xs (call_within ss i)) (group_front (layout f) g (some_group (layout f) g i h)) ∙ stage_get ss more i placed.placed placed.is in
    ap place_at stage ∙ ap (λ n. Some (n, placed.placed.index)) (placed.group ∙ (let z : 0 + g ≡ g = omega arith in z)) ∙ ap (λ n. Some (g, n)) placed.index

by_call : (b : Bool) (n m : ℕ) → (if b then Some n else None) ≡ Some m → (b ≡ true) × (n ≡ m)
by_call true n m h = (refl, same_Some n m h)
by_call false n m h = absurd (none-some m h)

pub call_place : (f : Flow) (g i n : ℕ) → call_of f g i ≡ Some n → place_of f n ≡ Some (g, i)
call_place f g i n h =
    let w = by_call (nat_lt i (length (group_at (layout f) g))) (call_step f g i) n h in
    ap (place_of f) (sym w.1) ∙ call_placed f g i ((Decides-ltb i (length (group_at (layout f) g))).0 w.0)

-- a group of the table, with its first step
pub start_first : (f : Flow) (g : ℕ) (starts : List GroupStart) (s d : GroupStart) → starts ≡ starts_of f → g < length starts → s ≡ get_or starts g d →
    (g < length (layout f)) × (s.first ≡ first_step f g)
start_first f g starts s d e h is =
    let within : g < length (layout f) = subst (λ n. g < n) (ap length e ∙ length-starts f) h in
    (within, ap (λ (x : GroupStart). x.first) (is ∙ ap (λ xs. get_or xs g d) e) ∙ first_at f g d within)

pub start_past : (f : Flow) (g i : ℕ) (starts : List GroupStart) → starts ≡ starts_of f → length starts ≤ g → None ≡ call_of f g i
start_past f g i starts e h = not_called f g i (subst (λ n. n ≤ g) (ap length e ∙ length-starts f) h)
