-- Places and numbers of the steps, counted from the front.
-- for: places::place
use Rattle.std.proofs.Common.{◌≡◌, ℕ, zero, suc, ◌+◌, ◌-◌, ◌<◌, Bool, true, false, ◌≤◌, ⊎_elim, inl, inr, List, [], ◌∷◌, ◌++◌, length, map, take, drop, get_or}
use Rattle.std.proofs.Common.{Some, None, refl, sym, ap, ◌∙◌, subst, arith, append_assoc, length-append, if◌then◌else◌}
use Rattle.std.specs.Prelude.{slice_get, nat_lt}
use Rattle.std.specs.List.{flat_map}
use Rattle.std.proofs.lemmas.Bool.{cases_lt}
use Rattle.std.proofs.lemmas.Bool.Decides.{Decides-ltb}
use Rattle.std.proofs.lemmas.List.{append-nil, drop_at, length-take-le, length_push, take_at}
use Rattle.std.proofs.lemmas.List.Concat.{flat_map-append}
use Rattle.std.proofs.lemmas.Option.{none-some}
use Rattle.flow_model.specs.declared.flow.Flow.{Flow}
use Rattle.flow_model.specs.declared.flow.Group.{Group}
use Rattle.flow_model.specs.declared.flow.Entry.{Entry}
use Rattle.flow_model.specs.declared.flow.PlacedEntry.{PlacedEntry}
use Rattle.flow_model.specs.declared.numbering.Part.{Part}
use Rattle.flow_model.specs.Places.{parts_of, placed_entry, placed_from}
use Rattle.flow_asm.specs.declared.code.Step.{Step}
use Rattle.flow_asm.specs.declared.code.Step.TheVariants.{Call, Pick, Return}
use Rattle.flow_asm.specs.Steps.{Stage, AtCall, AtPick, AtReturn, first_step, groups_from, layout, stages, stages_of_entry, stages_of_group, step_of, steps_of}
use Rattle.flow_asm.specs.Places.{IsStepOf, call_of, call_step, group_at, is_pick, place_at, place_of}
use Rattle.flow_asm.proofs.Stages.{call_shown, front, pick_shown, read_step, return_shown}

-- the step of an entry's call, and that the flow has the entry
pub record IsCalled (f : Flow) (g i n : ℕ) : Type 0 where
  pub step : call_step f g i ≡ n
  pub within : nat_lt i (length (group_at (layout f) g)) ≡ true

-- from this step, group and index on, each step has the place that counting gives
abbrev pub Counted : Flow → ℕ → ℕ → ℕ → List Stage → Type 0
Counted f n g i [] = Unit {0}
Counted f n g i (AtCall s ∷ xs) = ((s.group ≡ g) × (s.index ≡ i)) × IsCalled f g i n × Counted f (n + 1) g (i + 1) xs
Counted f n g i (AtPick s ∷ xs) = ((s.group ≡ g) × (s.index + 1 ≡ i)) × IsCalled f g s.index (n - 1) × (0 < n) × Counted f (n + 1) g i xs
Counted f n g i (AtReturn ∷ xs) = Counted f (n + 1) (g + 1) 0 xs

called : (f : Flow) (g i : ℕ) (before ss : List PlacedEntry) (s : PlacedEntry) → group_at (layout f) g ≡ before ++ s ∷ ss → length before ≡ i →
    IsCalled f g i (first_step f g + length (flat_map stages_of_entry before))
called f g i before ss s is l =
    record {
      step = ap (λ xs. first_step f g + length (flat_map stages_of_entry (take i xs))) is ∙ ap (λ xs. first_step f g + length (flat_map stages_of_entry xs))
          (take_at before (s ∷ ss) i l);
      within = (Decides-ltb i (length (group_at (layout f) g))).1
          (subst (λ (xs : List PlacedEntry). i < length xs) (sym is) (omega (arith, length-append before (s ∷ ss), l)));
    }

counted_group : (f : Flow) (parts : List Part) (g i n : ℕ) (before : List PlacedEntry) (es : List Entry) (more : List Stage) →
    group_at (layout f) g ≡ before ++ placed_from parts g i es → length before ≡ i → first_step f g + length (flat_map stages_of_entry before) ≡ n →
    Counted f (n + length (stages_of_group (placed_from parts g i es))) (g + 1) 0 more → Counted f n g i (stages_of_group (placed_from parts g i es) ++ more)
counted_group f parts g i n before [] more is l e h = h
counted_group f parts g i n before (x ∷ es) more is l e h = by x.kind.selector refl
    (λ m w r. counted_group f parts g (i + 1) m (before ++ placed_entry parts g i x ∷ []) es more
    (is ∙ sym (append_assoc before (placed_entry parts g i x ∷ []) (placed_from parts g (i + 1) es))) (length_push before (placed_entry parts g i x)
    ∙ ap (λ k. k + 1) l) w r)
  where
    s : PlacedEntry
    s = placed_entry parts g i x

    ss : List PlacedEntry
    ss = placed_from parts g (i + 1) es

    here : IsCalled f g i n
    here = subst (IsCalled f g i) e (called f g i before ss s is l)

    wider : flat_map stages_of_entry (before ++ s ∷ []) ≡ flat_map stages_of_entry before ++ stages_of_entry s
    wider = flat_map-append stages_of_entry before (s ∷ []) ∙ ap (λ xs. flat_map stages_of_entry before ++ xs) (append-nil (stages_of_entry s))

    Goes : Type 0
    Goes = (m : ℕ) → first_step f g + length (flat_map stages_of_entry (before ++ s ∷ [])) ≡ m → Counted f (m + length (stages_of_group ss)) (g + 1) 0 more
        → Counted f m g (i + 1) (stages_of_group ss ++ more)

    by : (b : Bool) → x.kind.selector ≡ b → Goes → Counted f n g i (((if b then AtCall s ∷ AtPick s ∷ [] else AtCall s ∷ []) ++ stages_of_group ss) ++ more)
    by true k go =
        let two : stages_of_entry s ≡ AtCall s ∷ AtPick s ∷ [] = ap (λ b. if b then AtCall s ∷ AtPick s ∷ [] else AtCall s ∷ []) k in
        let wide : length (flat_map stages_of_entry (before ++ s ∷ [])) ≡ length (flat_map stages_of_entry before) + 2 =
        ap length wider ∙ length-append (flat_map stages_of_entry before) (stages_of_entry s)
        ∙ ap (λ xs. length (flat_map stages_of_entry before) + length xs) two in
        let long : length (stages_of_group (s ∷ ss)) ≡ 2 + length (stages_of_group ss) = length-append (stages_of_entry s) (stages_of_group ss)
        ∙ ap (λ xs. length xs + length (stages_of_group ss)) two in
        let rest = go (n + 1 + 1) (omega (arith, wide, e)) (subst (λ m. Counted f m (g + 1) 0 more) (omega (arith, long)) h) in
        ((refl, refl), here, ((refl, refl), subst (IsCalled f g i) (omega arith) here, omega arith, rest))
    by false k go =
        let one : stages_of_entry s ≡ AtCall s ∷ [] = ap (λ b. if b then AtCall s ∷ AtPick s ∷ [] else AtCall s ∷ []) k in
        let wide : length (flat_map stages_of_entry (before ++ s ∷ [])) ≡ length (flat_map stages_of_entry before) + 1 =
        ap length wider ∙ length-append (flat_map stages_of_entry before) (stages_of_entry s)
        ∙ ap (λ xs. length (flat_map stages_of_entry before) + length xs) one in
        let long : length (stages_of_group (s ∷ ss)) ≡ 1 + length (stages_of_group ss) = length-append (stages_of_entry s) (stages_of_group ss)
        ∙ ap (λ xs. length xs + length (stages_of_group ss)) one in
        let rest = go (n + 1) (omega (arith, wide, e)) (subst (λ m. Counted f m (g + 1) 0 more) (omega (arith, long)) h) in
        ((refl, refl), here, rest)

pub group_at_at : (before : List (List PlacedEntry)) (ss : List PlacedEntry) (more : List (List PlacedEntry)) (g : ℕ) → length before ≡ g →
    group_at (before ++ ss ∷ more) g ≡ ss
group_at_at [] ss more zero h = refl
group_at_at [] ss more (suc g) h = absurd (omega (arith, h))
group_at_at (x ∷ xs) ss more zero h = absurd (omega (arith, h))
group_at_at (x ∷ xs) ss more (suc g) h = group_at_at xs ss more g (omega (arith, h))

counted_groups : (f : Flow) (before : List (List PlacedEntry)) (g n : ℕ) (gs : List Group) → layout f ≡ before ++ groups_from (parts_of f) g gs →
    length before ≡ g → length (flat_map stages_of_group before) ≡ n → Counted f n g 0 (flat_map stages_of_group (groups_from (parts_of f) g gs))
counted_groups f before g n [] is l e = tt
counted_groups f before g n (x ∷ gs) is l e =
    let ss : List PlacedEntry = placed_from (parts_of f) g 0 x.entries in
    let later : List (List PlacedEntry) = groups_from (parts_of f) (g + 1) gs in
    let group : group_at (layout f) g ≡ ss = ap (λ xs. group_at xs g) is ∙ group_at_at before ss later g l in
    let first : first_step f g ≡ n = ap (λ xs. length (flat_map stages_of_group (take g xs))) is ∙ ap (λ xs. length (flat_map stages_of_group xs))
    (take_at before (ss ∷ later) g l) ∙ e in
    let wide : length (flat_map stages_of_group (before ++ ss ∷ [])) ≡ n + length (stages_of_group ss) =
    ap length (flat_map-append stages_of_group before (ss ∷ []) ∙ ap (λ xs. flat_map stages_of_group before ++ xs) (append-nil (stages_of_group ss)))
    ∙ length-append (flat_map stages_of_group before) (stages_of_group ss) ∙ ap (λ m. m + length (stages_of_group ss)) e in
    let rest = counted_groups f (before ++ ss ∷ []) (g + 1) (n + length (stages_of_group ss)) gs (is ∙ sym (append_assoc before (ss ∷ []) later))
    (length_push before ss ∙ ap (λ m. m + 1) l) wide in
    counted_group f (parts_of f) g 0 n [] x.entries (flat_map stages_of_group later) group refl (omega (arith, first)) rest

pub counted : (f : Flow) → Counted f 0 0 0 (stages f)
counted f = counted_groups f [] 0 0 f.groups refl refl refl

call_is : (f : Flow) (g i n : ℕ) → IsCalled f g i n → call_of f g i ≡ Some n
call_is f g i n c = ap (λ b. if b then Some (call_step f g i) else None) c.within ∙ ap Some c.step

-- a call, as it was counted
pub record IsCall (f : Flow) (k g i : ℕ) : Type 0 where
  pub place : place_of f k ≡ Some (g, i)
  pub entry : IsStepOf f g i k
  pub next : Counted f (k + 1) g (i + 1) (drop (k + 1) (stages f))

pub counted_call : (f : Flow) (k g i p : ℕ) → Counted f k g i (drop k (stages f)) → slice_get (map step_of (stages f)) k ≡ Some (Call p) → IsCall f k g i
counted_call f k g i p c h =
    let shown = call_shown (stages f) k p h in
    let w = subst (Counted f k g i) (front (stages f) k (AtCall shown.0) shown.1) c in
    record {
      place = ap place_at shown.1 ∙ ap (λ n. Some (n, shown.0.index)) w.0.0 ∙ ap (λ n. Some (g, n)) w.0.1;
      entry = inl (call_is f g i k w.1);
      next = w.2;
    }

-- a pick, as it was counted
pub record IsPick (f : Flow) (k g i : ℕ) : Type 0 where
  pub place : place_of f k ≡ Some (g, i - 1)
  pub entry : IsStepOf f g (i - 1) k
  pub some : 0 < i
  pub next : Counted f (k + 1) g i (drop (k + 1) (stages f))

pub counted_pick : (f : Flow) (k g i p : ℕ) → Counted f k g i (drop k (stages f)) → slice_get (map step_of (stages f)) k ≡ Some (Pick p) → IsPick f k g i
counted_pick f k g i p c h =
    let shown = pick_shown (stages f) k p h in
    let w = subst (Counted f k g i) (front (stages f) k (AtPick shown.0) shown.1) c in
    let e : shown.0.index ≡ i - 1 = omega (arith, w.0.1) in
    record {
      place = ap place_at shown.1 ∙ ap (λ n. Some (n, shown.0.index)) w.0.0 ∙ ap (λ n. Some (g, n)) e;
      entry = inr (ap is_pick h, ap (call_of f g) (sym e) ∙ call_is f g shown.0.index (k - 1) w.1);
      some = omega (arith, w.0.1);
      next = w.3;
    }

-- after a return, counting begins anew
pub record IsReturn (f : Flow) (k g : ℕ) : Type 0 where
  pub place : place_of f k ≡ None
  pub next : Counted f (k + 1) (g + 1) 0 (drop (k + 1) (stages f))

pub counted_return : (f : Flow) (k g i : ℕ) → Counted f k g i (drop k (stages f)) → slice_get (map step_of (stages f)) k ≡ Some Return → IsReturn f k g
counted_return f k g i c h =
    let shown = return_shown (stages f) k h in
    record {
      place = ap place_at shown;
      next = subst (Counted f k g i) (front (stages f) k AtReturn shown) c;
    }

pub call_read : (f : Flow) (steps : List Step) (k g i p : ℕ) (d : Step) → steps ≡ steps_of f → k < length steps → Counted f k g i (drop k (stages f)) →
    get_or steps k d ≡ Call p → IsCall f k g i
call_read f steps k g i p d e h c is = counted_call f k g i p c (read_step f steps k d (Call p) e h is)

pub pick_read : (f : Flow) (steps : List Step) (k g i p : ℕ) (d : Step) → steps ≡ steps_of f → k < length steps → Counted f k g i (drop k (stages f)) →
    get_or steps k d ≡ Pick p → IsPick f k g i
pick_read f steps k g i p d e h c is = counted_pick f k g i p c (read_step f steps k d (Pick p) e h is)

pub return_read : (f : Flow) (steps : List Step) (k g i : ℕ) (d : Step) → steps ≡ steps_of f → k < length steps → Counted f k g i (drop k (stages f)) →
    get_or steps k d ≡ Return → IsReturn f k g
return_read f steps k g i d e h c is = counted_return f k g i c (read_step f steps k d (Return) e h is)

pub moved : (f : Flow) (n g i h j : ℕ) (xs : List Stage) → h ≡ g → j ≡ i → Counted f n g i xs → Counted f n h j xs
moved f n g i h j xs a b c = subst (λ (m : ℕ). Counted f n m j xs) (sym a) (subst (λ (m : ℕ). Counted f n g m xs) (sym b) c)

pub goes_on : (n m : ℕ) → n ≤ m → (n ≡ m → ⊥) → n + 1 ≤ m
goes_on n m h d = ⊎_elim (λ (l : n < m). (let w : n + 1 ≤ m = omega (arith, l) in w)) (λ (l : m ≤ n). absurd (d (let w : n ≡ m = omega (arith, h, l) in w)))
    (cases_lt n m)

drop_groups : (ps : List Part) (h g : ℕ) (gs : List Group) → drop g (groups_from ps h gs) ≡ groups_from ps (h + g) (drop g gs)
drop_groups ps h zero gs = ap (λ n. groups_from ps n gs) (let e : h ≡ h + 0 = omega arith in e)
drop_groups ps h (suc g) [] = refl
drop_groups ps h (suc g) (x ∷ gs) = drop_groups ps (h + 1) g gs ∙ ap (λ n. groups_from ps n (drop g gs)) (let e : h + 1 + g ≡ h + suc g = omega arith in e)

split_groups : (gs : List (List PlacedEntry)) (g : ℕ) → gs ≡ take g gs ++ drop g gs
split_groups [] zero = refl
split_groups [] (suc g) = refl
split_groups (ss ∷ gs) zero = refl
split_groups (ss ∷ gs) (suc g) = ap (λ xs. ss ∷ xs) (split_groups gs g)

-- counting may begin at a group's first step
pub counted_at : (f : Flow) (g : ℕ) → g ≤ length (layout f) → Counted f (first_step f g) g 0 (drop (first_step f g) (stages f))
counted_at f g h =
    let before : List (List PlacedEntry) = take g (layout f) in
    let later : drop g (layout f) ≡ groups_from (parts_of f) g (drop g f.groups) =
    drop_groups (parts_of f) 0 g f.groups ∙ ap (λ n. groups_from (parts_of f) n (drop g f.groups)) (let e : 0 + g ≡ g = omega arith in e) in
    let is : layout f ≡ before ++ groups_from (parts_of f) g (drop g f.groups) = split_groups (layout f) g ∙ ap (λ xs. before ++ xs) later in
    let rest : drop (first_step f g) (stages f) ≡ flat_map stages_of_group (groups_from (parts_of f) g (drop g f.groups)) =
    ap (λ xs. drop (first_step f g) (flat_map stages_of_group xs)) is ∙ ap (drop (first_step f g))
    (flat_map-append stages_of_group before (groups_from (parts_of f) g (drop g f.groups))) ∙ drop_at (flat_map stages_of_group before)
    (flat_map stages_of_group (groups_from (parts_of f) g (drop g f.groups))) (first_step f g) refl in
    subst (Counted f (first_step f g) g 0) (sym rest) (counted_groups f before g (first_step f g) (drop g f.groups) is (length-take-le g (layout f) h) refl)

-- a group has at least one step
some_stage : (ss : List PlacedEntry) → 1 ≤ length (stages_of_group ss)
some_stage [] = omega arith
some_stage (s ∷ ss) = omega (arith, length-append (stages_of_entry s) (stages_of_group ss), some_stage ss)

first_past : (gs : List (List PlacedEntry)) (g : ℕ) → g ≤ length gs → g ≤ length (flat_map stages_of_group (take g gs))
first_past gs zero h = omega arith
first_past [] (suc g) h = absurd (omega (arith, h))
first_past (ss ∷ gs) (suc g) h =
    let ih = first_past gs g (omega (arith, h)) in
    omega (arith, ih, some_stage ss, length-append (stages_of_group ss) (flat_map stages_of_group (take g gs)))

pub group_past_first : (f : Flow) (g : ℕ) → g ≤ length (layout f) → g ≤ first_step f g
group_past_first f g h = first_past (layout f) g h

-- the step of a call is its entry's call step
pub call_counted : (f : Flow) (n g i k : ℕ) (xs : List Stage) (s : PlacedEntry) → Counted f n g i xs → slice_get xs k ≡ Some (AtCall s) →
    call_step f s.group s.index ≡ n + k
call_counted f n g i k [] s c h = absurd (none-some (AtCall s) h)
call_counted f n g i zero (AtCall t ∷ xs) s c h =
    let same : t ≡ s = cc in
    ap (λ (u : PlacedEntry). call_step f u.group u.index) (sym same) ∙ ap (λ m. call_step f m t.index) c.0.0 ∙ ap (call_step f g) c.0.1 ∙ c.1.step
    ∙ (let e : n ≡ n + 0 = omega arith in e)
call_counted f n g i (suc k) (AtCall t ∷ xs) s c h = call_counted f (n + 1) g (i + 1) k xs s c.2 h ∙ (let e : n + 1 + k ≡ n + suc k = omega arith in e)
call_counted f n g i zero (AtPick t ∷ xs) s c h = absurd cc
call_counted f n g i (suc k) (AtPick t ∷ xs) s c h = call_counted f (n + 1) g i k xs s c.3 h ∙ (let e : n + 1 + k ≡ n + suc k = omega arith in e)
call_counted f n g i zero (AtReturn ∷ xs) s c h = absurd cc
call_counted f n g i (suc k) (AtReturn ∷ xs) s c h = call_counted f (n + 1) (g + 1) 0 k xs s c h ∙ (let e : n + 1 + k ≡ n + suc k = omega arith in e)

-- a pick stands after it
pub pick_counted : (f : Flow) (n g i k : ℕ) (xs : List Stage) (s : PlacedEntry) → Counted f n g i xs → slice_get xs k ≡ Some (AtPick s) →
    call_step f s.group s.index + 1 ≡ n + k
pick_counted f n g i k [] s c h = absurd (none-some (AtPick s) h)
pick_counted f n g i zero (AtCall t ∷ xs) s c h = absurd cc
pick_counted f n g i (suc k) (AtCall t ∷ xs) s c h = pick_counted f (n + 1) g (i + 1) k xs s c.2 h ∙ (let e : n + 1 + k ≡ n + suc k = omega arith in e)
pick_counted f n g i zero (AtPick t ∷ xs) s c h =
    let same : t ≡ s = cc in
    let step : call_step f s.group s.index ≡ n - 1 = ap (λ (u : PlacedEntry). call_step f u.group u.index) (sym same) ∙ ap (λ m. call_step f m t.index)
    c.0.0 ∙ c.1.step in
    let some : 0 < n = c.2 in
    omega (arith, step, some)
pick_counted f n g i (suc k) (AtPick t ∷ xs) s c h = pick_counted f (n + 1) g i k xs s c.3 h ∙ (let e : n + 1 + k ≡ n + suc k = omega arith in e)
pick_counted f n g i zero (AtReturn ∷ xs) s c h = absurd cc
pick_counted f n g i (suc k) (AtReturn ∷ xs) s c h = pick_counted f (n + 1) (g + 1) 0 k xs s c h ∙ (let e : n + 1 + k ≡ n + suc k = omega arith in e)

pub call_step_is : (f : Flow) (k : ℕ) (s : PlacedEntry) → slice_get (stages f) k ≡ Some (AtCall s) → call_step f s.group s.index ≡ k
call_step_is f k s h = call_counted f 0 0 0 k (stages f) s (counted f) h ∙ (let e : 0 + k ≡ k = omega arith in e)

pub pick_step_is : (f : Flow) (k : ℕ) (s : PlacedEntry) → slice_get (stages f) k ≡ Some (AtPick s) → call_step f s.group s.index + 1 ≡ k
pick_step_is f k s h = pick_counted f 0 0 0 k (stages f) s (counted f) h ∙ (let e : 0 + k ≡ k = omega arith in e)
