-- A checked flow lays out lines within the limits of an image.
-- for: reader::load
use Rattle.std.specs.List.{flat_map}
use Rattle.std.proofs.Common.{◌≡◌, ℕ, suc, ◌+◌, ◌≤◌, Bool, true, false, List, [], ◌∷◌, ◌++◌, length, Some, None, refl, sym, ap, subst, arith, cond}
use Rattle.std.proofs.Common.{if◌then◌else◌, length-append}
use Rattle.flow_model.specs.declared.flow.Flow.{Flow}
use Rattle.flow_model.specs.declared.flow.Group.{Group}
use Rattle.flow_model.specs.declared.flow.Entry.{Entry}
use Rattle.flow_model.specs.declared.numbering.Part.{Part}
use Rattle.sw_context.specs.Names.{is_name}
use Rattle.flow_model.specs.Check.{IsChecked, bad_entry, bad_group, bad_name, bad_retries, first_fault, large, name_fault}
use Rattle.sw_base.specs.Refusals.{first_at, or_else}
use Rattle.sw_base.proofs.Unrefused.{left_none, right_none}
use Rattle.flow_model.specs.Places.{add_new, number_in, parts_from, parts_of}
use Rattle.flow_asm.specs.declared.code.GroupStart.{GroupStart}
use Rattle.flow_asm.specs.declared.code.Step.{Step}
use Rattle.flow_asm.specs.declared.code.Step.TheVariants.{Call, Pick, Return}
use Rattle.flow_asm.specs.Emit.{all_steps, entry_steps, group_steps}
use Rattle.flow_asm.proofs.AssemblyListing.{map_groups}
use Rattle.flow_model.proofs.ParticipantBounds.{few_groups, few_participants, few_retries}
use Rattle.flow_asm.proofs.StepCounts.{few_all_steps}
use Rattle.flow_load.specs.Image.{has_recovering, lines_of, version_of}
use Rattle.flow_load.proofs.StepsRead.{entries_in, starts_at, starts_are}
use Rattle.flow_load.proofs.FlowLines.{by_entry, number_within}
use Rattle.flow_load.proofs.LinesRead.{Each, IsWithinLimits, IsNamedPart, IsSmallStart, IsSmallStep}

no_else : {E : Type 0} (b : Bool) (e : E) → cond b None (Some e) ≡ None → b ≡ true
no_else true e h = refl
no_else false e h = absurd (cc)

names_fault : (f : Flow) → IsChecked f → first_at bad_group 0 f.groups ≡ None
unfolding first_fault
names_fault f h = left_none (first_at bad_group 0 f.groups) _ (right_none (or_else (large f) (bad_retries f)) (name_fault f) h)

-- names

each_append : {A : Type 0} (P : A → Type 0) (xs ys : List A) → Each P xs → Each P ys → Each P (xs ++ ys)
each_append P [] ys a b = b
each_append P (x ∷ xs) ys a b = (a.0, each_append P xs ys a.1 b)

abbrev IsNamedEntry : Entry → Type 0
IsNamedEntry e = is_name e.participant ≡ true

abbrev IsNamedGroup : Group → Type 0
IsNamedGroup g = is_name g.name ≡ true

entries_named : (g i : ℕ) (es : List Entry) → first_at (bad_entry g) i es ≡ None → Each IsNamedEntry es
entries_named g i [] h = tt
entries_named g i (e ∷ es) h = (
  no_else (is_name e.participant) _ (left_none (bad_entry g i e) (first_at (bad_entry g) (i + 1) es) h),
  entries_named g (i + 1) es (right_none (bad_entry g i e) (first_at (bad_entry g) (i + 1) es) h),
)

groups_named : (g : ℕ) (gs : List Group) → first_at bad_group g gs ≡ None → Each IsNamedGroup gs × Each IsNamedEntry (entries_in gs)
groups_named g [] h = (tt, tt)
groups_named g (x ∷ gs) h =
    let here = left_none (bad_group g x) (first_at bad_group (g + 1) gs) h in
    let later = groups_named (g + 1) gs (right_none (bad_group g x) (first_at bad_group (g + 1) gs) h) in
    let name = no_else (is_name x.name) _ (left_none (bad_name g None x.name) (first_at (bad_entry g) 0 x.entries) here) in
    let entries = entries_named g 0 x.entries (right_none (bad_name g None x.name) (first_at (bad_entry g) 0 x.entries) here) in
    ((name, later.0), each_append IsNamedEntry x.entries (entries_in gs) entries later.1)

parts_named : (ps : List Part) (es : List Entry) → Each IsNamedPart ps → Each IsNamedEntry es → Each IsNamedPart (parts_from ps es)
parts_named ps [] a b = a
parts_named ps (e ∷ es) a b =
    parts_named (add_new ps e) es (by_entry ps e (Each IsNamedPart (add_new ps e))
    (λ k. subst (Each IsNamedPart) (sym k.is) a)
    (λ n. subst (Each IsNamedPart) (sym n.is) (each_append IsNamedPart ps (record { name = e.participant; kind = e.kind } ∷ []) a (b.0, tt)))) b.1

starts_small : (parts : List Part) (at : ℕ) (gs : List Group) → Each IsNamedGroup gs → at + length (all_steps parts gs) ≤ 100000 →
    Each IsSmallStart (starts_at parts at gs)
starts_small parts at [] a h = tt
starts_small parts at (x ∷ gs) a h = (
  record { name = a.0; first = omega (arith, h) },
  starts_small parts (at + length (group_steps parts x)) gs a.1
      (omega (arith, h, length-append (group_steps parts x) (all_steps parts gs))),
)

entry_steps_small : (parts : List Part) (e : Entry) → length parts ≤ 100000 → Each IsSmallStep (entry_steps parts e)
entry_steps_small parts e h = by e.kind.selector (omega (arith, number_within parts e.participant))
  where
    by : (b : Bool) → number_in parts e.participant ≤ 100000 →
        Each IsSmallStep (if b then Call (number_in parts e.participant) ∷ Pick (number_in parts e.participant) ∷ [] else Call
        (number_in parts e.participant) ∷ [])
    by true le = (le, (le, tt))
    by false le = (le, tt)

group_steps_small : (parts : List Part) (es : List Entry) → length parts ≤ 100000 → Each IsSmallStep (flat_map (entry_steps parts) es)
group_steps_small parts [] h = tt
group_steps_small parts (e ∷ es) h = each_append IsSmallStep (entry_steps parts e) (flat_map (entry_steps parts) es) (entry_steps_small parts e h)
    (group_steps_small parts es h)

steps_small : (parts : List Part) (gs : List Group) → length parts ≤ 100000 → Each IsSmallStep (all_steps parts gs)
steps_small parts [] h = tt
steps_small parts (x ∷ gs) h =
    each_append IsSmallStep (group_steps parts x) (all_steps parts gs) (each_append IsSmallStep (flat_map (entry_steps parts) x.entries) (Return ∷ [])
    (group_steps_small parts x.entries h) (tt, tt)) (steps_small parts gs h)

version_small : (parts : List Part) → (1 ≤ version_of parts) × (version_of parts ≤ 2)
version_small parts = by (has_recovering parts)
  where
    by : (b : Bool) → (1 ≤ (if b then 2 else 1)) × ((if b then 2 else 1) ≤ 2)
    by true = (omega arith, omega arith)
    by false = (omega arith, omega arith)

length-starts : (parts : List Part) (at : ℕ) (gs : List Group) → length (starts_at parts at gs) ≡ length gs
length-starts parts at [] = refl
length-starts parts at (x ∷ gs) = ap suc (length-starts parts (at + length (group_steps parts x)) gs)

pub within_limits_of : (f : Flow) → IsChecked f → IsWithinLimits (lines_of f)
within_limits_of f h =
    let named = groups_named 0 f.groups (names_fault f h) in
    let groups = few_groups f h in
    let parts = few_participants f h in
    let few = few_all_steps f h in
    let steps : all_steps (parts_of f) f.groups ≡ (lines_of f).steps = sym (map_groups (parts_of f) 0 f.groups) in
    let starts : starts_at (parts_of f) 0 f.groups ≡ (lines_of f).starts = starts_are f [] f.groups 0 0 refl refl refl in
    record {
      version = version_small (parts_of f);
      retries = few_retries f h;
      parts = parts;
      starts = subst (λ (ss : List GroupStart). length ss ≤ 256) starts (omega (arith, length-starts (parts_of f) 0 f.groups, groups));
      steps = subst (λ (xs : List Step). length xs ≤ 33024) steps few;
      part = parts_named [] (entries_in f.groups) tt named.1;
      start = subst (Each IsSmallStart) starts (starts_small (parts_of f) 0 f.groups named.0 (omega (arith, few)));
      step = subst (Each IsSmallStep) steps (steps_small (parts_of f) f.groups (omega (arith, parts)));
    }
