-- Listing undoes assembly.
-- for: assembly::lay_out, assembly::assemble, listing::list
use Rattle.std.proofs.Common.{◌≡◌, ℕ, zero, suc, ◌+◌, ◌<◌, Bool, true, false, inl, inr, List, [], ◌∷◌, ◌++◌, length, map, take, drop, get_or, refl, sym, ap}
use Rattle.std.proofs.Common.{◌∙◌, subst, arith, append_assoc, if◌then◌else◌}
use Rattle.std.specs.List.{flat_map}
use Rattle.std.proofs.lemmas.List.{append-nil, map-append, length-map, drop_at, take_at, take_more, length-take-le, length_push}
use Rattle.std.proofs.lemmas.List.Concat.{flat_map-append}
use Rattle.flow_model.specs.declared.flow.Flow.{Flow}
use Rattle.flow_model.specs.declared.flow.Group.{Group}
use Rattle.flow_model.specs.declared.flow.Entry.{Entry}
use Rattle.flow_model.specs.declared.flow.PlacedEntry.{PlacedEntry}
use Rattle.flow_model.specs.declared.numbering.Part.{Part}
use Rattle.flow_model.specs.Check.{IsChecked}
use Rattle.flow_model.specs.Places.{all_entries, number_in, parts_from, parts_of, placed_entry, placed_from}
use Rattle.flow_asm.specs.declared.code.Step.{Step}
use Rattle.flow_asm.specs.declared.code.Step.TheVariants.{Call, Pick, Return}
use Rattle.flow_asm.specs.declared.code.GroupStart.{GroupStart}
use Rattle.flow_asm.specs.declared.code.Code.TheInside.{Inside}
use Rattle.flow_asm.specs.Steps.{AtCall, AtPick, first_step, groups_from, stages_of_entry, stages_of_group, starts_from, starts_of, step_of, steps_of}
use Rattle.flow_asm.specs.Listing.{IsAssembly, entries_from, entry_of, group_of, listed}
use Rattle.flow_asm.specs.Emit.{all_steps, entry_steps, group_steps}
use Rattle.flow_model.proofs.CheckedKinds.{In, OneKind, in_left, in_right, one_kind}
use Rattle.flow_model.proofs.Numbers.{numbered}

map_entry : (parts : List Part) (g i : ℕ) (e : Entry) → map step_of (stages_of_entry (placed_entry parts g i e)) ≡ entry_steps parts e
map_entry parts g i e = by e.kind.selector
  where
    s : PlacedEntry
    s = placed_entry parts g i e

    by : (b : Bool) → map step_of (if b then AtCall s ∷ AtPick s ∷ [] else AtCall s ∷ [])
        ≡ (if b then Call (number_in parts e.participant) ∷ Pick (number_in parts e.participant) ∷ [] else Call (number_in parts e.participant) ∷ [])
    by true = refl
    by false = refl

map_group : (parts : List Part) (g i : ℕ) (es : List Entry) → map step_of (stages_of_group (placed_from parts g i es)) ≡ flat_map (entry_steps parts) es
    ++ Return ∷ []
map_group parts g i [] = refl
map_group parts g i (e ∷ es) =
    let s : PlacedEntry = placed_entry parts g i e in
    map-append step_of (stages_of_entry s) (stages_of_group (placed_from parts g (i + 1) es))
    ∙ ap (λ xs. xs ++ map step_of (stages_of_group (placed_from parts g (i + 1) es))) (map_entry parts g i e) ∙ ap (λ xs. entry_steps parts e ++ xs)
    (map_group parts g (i + 1) es) ∙ sym (append_assoc (entry_steps parts e) (flat_map (entry_steps parts) es) (Return ∷ []))

pub map_groups : (parts : List Part) (g : ℕ) (gs : List Group) → map step_of (flat_map stages_of_group (groups_from parts g gs)) ≡ all_steps parts gs
map_groups parts g [] = refl
map_groups parts g (x ∷ gs) =
    map-append step_of (stages_of_group (placed_from parts g 0 x.entries)) (flat_map stages_of_group (groups_from parts (g + 1) gs))
    ∙ ap (λ xs. xs ++ map step_of (flat_map stages_of_group (groups_from parts (g + 1) gs))) (map_group parts g 0 x.entries)
    ∙ ap (λ xs. group_steps parts x ++ xs) (map_groups parts (g + 1) gs)

take_groups : (parts : List Part) (h g : ℕ) (gs : List Group) → take g (groups_from parts h gs) ≡ groups_from parts h (take g gs)
take_groups parts h zero gs = refl
take_groups parts h (suc g) [] = refl
take_groups parts h (suc g) (x ∷ gs) = ap (λ xs. placed_from parts h 0 x.entries ∷ xs) (take_groups parts (h + 1) g gs)

-- a group's first step is after the steps of the groups before it
pub first_is : (f : Flow) (g : ℕ) → first_step f g ≡ length (all_steps (parts_of f) (take g f.groups))
first_is f g =
    ap (λ gs. length (flat_map stages_of_group gs)) (take_groups (parts_of f) 0 g f.groups)
    ∙ sym (length-map (flat_map stages_of_group (groups_from (parts_of f) 0 (take g f.groups))) step_of)
    ∙ ap length (map_groups (parts_of f) 0 (take g f.groups))

-- the entries of a group's steps
group_listed : (es all : List Entry) (more : List Step) → OneKind all → ((e : Entry) → In es e → In all e) →
    entries_from (parts_from [] all) ((flat_map (entry_steps (parts_from [] all)) es ++ Return ∷ []) ++ more) ≡ es
group_listed [] all more one s = refl
group_listed (e ∷ es) all more one s = by e.kind.selector (group_listed es all more one (λ x i. s x (inr i)))
  where
    parts : List Part
    parts = parts_from [] all

    by : (b : Bool) → entries_from (parts_from [] all) ((flat_map (entry_steps (parts_from [] all)) es ++ Return ∷ []) ++ more) ≡ es →
        entries_from (parts_from [] all) ((((if b then Call (number_in (parts_from [] all) e.participant) ∷ Pick
        (number_in (parts_from [] all) e.participant) ∷ [] else Call (number_in (parts_from [] all) e.participant) ∷ [])
        ++ flat_map (entry_steps (parts_from [] all)) es) ++ Return ∷ []) ++ more) ≡ e ∷ es
    by true ih = ap (λ o. entry_of o ++ entries_from (parts_from [] all) ((flat_map (entry_steps (parts_from [] all)) es ++ Return ∷ []) ++ more))
        (numbered all e one (s e (inl refl))) ∙ ap (λ xs. e ∷ xs) ih
    by false ih = ap (λ o. entry_of o ++ entries_from (parts_from [] all) ((flat_map (entry_steps (parts_from [] all)) es ++ Return ∷ []) ++ more))
        (numbered all e one (s e (inl refl))) ∙ ap (λ xs. e ∷ xs) ih

-- the groups from the g-th on: what stands before them has been listed
groups_listed : (f : Flow) (before gs : List Group) (g : ℕ) → OneKind (all_entries f) → f.groups ≡ before ++ gs → length before ≡ g →
    map (group_of (parts_of f) (steps_of f)) (starts_from f g gs) ≡ gs
groups_listed f before [] g one e l = refl
groups_listed f before (x ∷ gs) g one e l =
    let parts : List Part = parts_of f in
    let all : List Entry = all_entries f in
    let first : first_step f g ≡ length (all_steps parts before) = first_is f g ∙ ap (λ ys. length (all_steps parts (take g ys))) e
    ∙ ap (λ ys. length (all_steps parts ys)) (take_at before (x ∷ gs) g l) in
    let whole : steps_of f ≡ all_steps parts before ++ (group_steps parts x ++ all_steps parts gs) = map_groups parts 0 f.groups ∙ ap (all_steps parts) e
    ∙ flat_map-append (group_steps parts) before (x ∷ gs) in
    let cut : drop (first_step f g) (steps_of f) ≡ group_steps parts x ++ all_steps parts gs =
    ap (λ n. drop n (steps_of f)) first ∙ ap (λ s. drop (length (all_steps parts before)) s) whole ∙ drop_at (all_steps parts before)
    (group_steps parts x ++ all_steps parts gs) (length (all_steps parts before)) refl in
    let mine : (y : Entry) → In x.entries y → In all y = λ y i. subst (λ (ys : List Entry). In ys y)
    (sym (ap (flat_map (λ (z : Group). z.entries)) e ∙ flat_map-append (λ (z : Group). z.entries) before (x ∷ gs)))
    (in_right (flat_map (λ (z : Group). z.entries) before) (x.entries ++ flat_map (λ (z : Group). z.entries) gs) y
    (in_left x.entries (flat_map (λ (z : Group). z.entries) gs) y i)) in
    let here : entries_from parts (drop (first_step f g) (steps_of f)) ≡ x.entries =
    ap (entries_from parts) cut ∙ group_listed x.entries all (all_steps parts gs) one mine in
    let head : group_of parts (steps_of f) record { name = x.name; first = first_step f g } ≡ x = ap (λ es. record { name = x.name; entries = es }) here in
    let later : f.groups ≡ (before ++ x ∷ []) ++ gs = e ∙ sym (append_assoc before (x ∷ []) gs) in
    let long : length (before ++ x ∷ []) ≡ g + 1 = length_push before x ∙ ap (λ n. n + 1) l in
    ap (λ y. y ∷ map (group_of parts (steps_of f)) (starts_from f (g + 1) gs)) head
    ∙ ap (λ ys. x ∷ ys) (groups_listed f (before ++ x ∷ []) gs (g + 1) one later long)

-- code with the fields of a flow's assembly is listed as that flow
pub record Made (f : Flow) (a : Inside) : Type 0 where
  pub retries : a.retries ≡ f.retries
  pub parts : a.parts ≡ parts_of f
  pub starts : a.starts ≡ starts_of f
  pub steps : a.steps ≡ steps_of f

pub listed_is : (f : Flow) (a : Inside) → IsChecked f → Made f a → listed a ≡ f
listed_is f a c m =
    let groups : map (group_of a.parts a.steps) a.starts ≡ f.groups = ap (λ ps. map (group_of ps a.steps) a.starts) m.parts
    ∙ ap (λ ss. map (group_of (parts_of f) ss) a.starts) m.steps ∙ ap (map (group_of (parts_of f) (steps_of f))) m.starts ∙ groups_listed f [] f.groups
    0 (one_kind f c) refl refl in
    ap (λ r. record { retries = r; groups = map (group_of a.parts a.steps) a.starts }) m.retries
    ∙ ap (λ gs. record { retries = f.retries; groups = gs }) groups

pub is_assembly : (f : Flow) (a : Inside) → IsChecked f → Made f a → IsAssembly a
is_assembly f a c m =
    let e : f ≡ listed a = sym (listed_is f a c m) in
    record { steps = m.steps ∙ ap steps_of e; starts = m.starts ∙ ap starts_of e; parts = m.parts ∙ ap parts_of e; checked = subst IsChecked e c }

pub starts_push : (f : Flow) (h : ℕ) (xs : List Group) (x : Group) → starts_from f h (xs ++ x ∷ []) ≡ starts_from f h xs ++ record {
  name = x.name;
  first =
      first_step f (h + length xs);
} ∷ []
starts_push f h [] x = ap (λ n. record { name = x.name; first = first_step f n } ∷ []) (let e : h ≡ h + 0 = omega arith in e)
starts_push f h (y ∷ ys) x =
    ap (λ ss. record { name = y.name; first = first_step f h } ∷ ss)
    (starts_push f (h + 1) ys x ∙ ap (λ n. starts_from f (h + 1) ys ++ record { name = x.name; first = first_step f n } ∷ [])
    (let e : (h + 1) + length ys ≡ h + suc (length ys) = omega arith in e))

-- one more group laid out
pub starts_more : (f : Flow) (gs : List Group) (i n : ℕ) (x : Group) (ps : List Part) (ss : List GroupStart) (xs : List Step) → gs ≡ f.groups →
    ps ≡ parts_of f → i < length gs → x ≡ get_or gs i x → ss ≡ starts_from f 0 (take i gs) → xs ≡ all_steps ps (take i gs) → n ≡ length xs →
    ss ++ record { name = x.name; first = n } ∷ [] ≡ starts_from f 0 (take (i + 1) gs)
starts_more f gs i n x ps ss xs e p h is s t l =
    let long : length (take i gs) ≡ i = length-take-le i gs (omega arith) in
    let first : n ≡ first_step f (0 + length (take i gs)) = l ∙ ap length t ∙ ap (λ qs. length (all_steps qs (take i gs))) p
    ∙ ap (λ ys. length (all_steps (parts_of f) (take i ys))) e ∙ sym (first_is f i) ∙ ap (first_step f) (let z : i ≡ 0 + length (take i gs) =
    omega arith in z) in
    ap (λ rs. rs ++ record { name = x.name; first = n } ∷ []) s ∙ ap (λ m. starts_from f 0 (take i gs) ++ record { name = x.name; first = m } ∷ []) first
    ∙ sym (ap (starts_from f 0) (take_more gs i x h ∙ ap (λ y. take i gs ++ y ∷ []) (sym is)) ∙ starts_push f 0 (take i gs) x)

pub steps_more : (gs : List Group) (i : ℕ) (x : Group) (ps : List Part) (xs ys : List Step) → i < length gs → x ≡ get_or gs i x →
    xs ≡ all_steps ps (take i gs) → ys ≡ xs ++ group_steps ps x → ys ≡ all_steps ps (take (i + 1) gs)
steps_more gs i x ps xs ys h is t e =
    e ∙ ap (λ zs. zs ++ group_steps ps x) t ∙ sym (ap (all_steps ps) (take_more gs i x h ∙ ap (λ y. take i gs ++ y ∷ []) (sym is))
    ∙ flat_map-append (group_steps ps) (take i gs) (x ∷ []) ∙ ap (λ zs. all_steps ps (take i gs) ++ zs) (append-nil (group_steps ps x)))
