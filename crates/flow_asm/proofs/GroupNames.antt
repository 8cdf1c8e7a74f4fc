-- The group of a name, found by the table of first steps.
-- for: code::Code::find_group
use Rattle.std.proofs.Common.{◌≡◌, ℕ, zero, suc, ◌+◌, ◌<◌, ◌≤◌, Bool, true, false, List, [], ◌∷◌, length, drop, get_or, slice_get, Some, refl, sym, ap, ◌∙◌}
use Rattle.std.proofs.Common.{subst, arith, if◌then◌else◌}
use Rattle.std.specs.Str.{bytes_eq}
use Rattle.std.specs.Prelude.{◌||◌}
use Rattle.std.proofs.lemmas.List.{drop_all}
use Rattle.std.proofs.lemmas.Option.{slice_get-get_or}
use Rattle.std.proofs.lemmas.Slice.Eq.{bytes_eq-Decides}
use Rattle.std.specs.Option.{option_map}
use Rattle.flow_model.specs.declared.flow.Flow.{Flow}
use Rattle.flow_model.specs.declared.flow.Group.{Group}
use Rattle.flow_model.specs.declared.numbering.Part.{Part}
use Rattle.flow_model.specs.Check.{is_named}
use Rattle.flow_model.specs.Places.{named_from, parts_of, placed_from, entries_named}
use Rattle.flow_asm.specs.declared.code.GroupStart.{GroupStart}
use Rattle.flow_asm.specs.Steps.{groups_from, layout, starts_from, starts_of}
use Rattle.flow_asm.specs.Places.{group_at}
use Rattle.flow_asm.proofs.Stages.{length-groups_from, length-starts}

-- the group whose first step the table has at an index
record IsGroup (ps : List Part) (h : ℕ) (gs : List Group) (k : ℕ) (called : List ℕ) : Type 0 where
  group : Group
  cut : drop k gs ≡ group ∷ drop (k + 1) gs
  name : group.name ≡ called
  placed_entries : group_at (groups_from ps h gs) k ≡ placed_from ps (h + k) 0 group.entries

group_of : (f : Flow) (ps : List Part) (g h k : ℕ) (gs : List Group) (d : GroupStart) → k < length gs
    → IsGroup ps h gs k (get_or (starts_from f g gs) k d).name
group_of f ps g h k [] d l = absurd (omega (arith, l))
group_of f ps g h zero (x ∷ gs) d l =
    record { group = x; cut = refl; name = refl; placed_entries = ap (λ n. placed_from ps n 0 x.entries) (let e : h ≡ h + 0 = omega arith in e) }
group_of f ps g h (suc k) (x ∷ gs) d l =
    let w = group_of f ps (g + 1) (h + 1) k gs d (omega (arith, l)) in
    record {
      group = w.group;
      cut = w.cut ∙ ap (λ n. w.group ∷ drop n (x ∷ gs)) (let e : suc (k + 1) ≡ suc k + 1 = omega arith in e);
      name = w.name;
      placed_entries = w.placed_entries ∙ ap (λ n. placed_from ps n 0 w.group.entries) (let e : h + 1 + k ≡ h + suc k = omega arith in e);
    }

-- the table's entry at an index
group_here : (f : Flow) (starts : List GroupStart) (k : ℕ) (d : GroupStart) → starts ≡ starts_of f → k < length starts →
    IsGroup (parts_of f) 0 f.groups k (get_or starts k d).name
group_here f starts k d e h =
    subst (λ (xs : List GroupStart). IsGroup (parts_of f) 0 f.groups k (get_or xs k d).name) (sym e)
    (group_of f (parts_of f) 0 0 k f.groups d (subst (λ n. k < n) (ap length e ∙ length-starts f ∙ length-groups_from (parts_of f) 0 f.groups) h))

pub group_within : (f : Flow) (starts : List GroupStart) (k : ℕ) → starts ≡ starts_of f → k < length starts → k < length (layout f)
group_within f starts k e h = subst (λ n. k < n) (ap length e ∙ length-starts f) h

-- the table has the name at that index
pub start_named : (f : Flow) (starts : List GroupStart) (k : ℕ) (d : GroupStart) (name : List ℕ) → starts ≡ starts_of f → k < length starts →
    bytes_eq (get_or starts k d).name name ≡ true → option_map (λ (s : GroupStart). s.name) (slice_get (starts_of f) k) ≡ Some name
start_named f starts k d name e h same =
    ap (λ (xs : List GroupStart). option_map (λ (s : GroupStart). s.name) (slice_get xs k)) (sym e) ∙ ap (option_map (λ (s : GroupStart). s.name))
    (slice_get-get_or starts k d h) ∙ ap Some ((bytes_eq-Decides (get_or starts k d).name name).0 same)

-- its entries are those of the name
pub named_here : (f : Flow) (starts : List GroupStart) (k : ℕ) (d : GroupStart) (name : List ℕ) → starts ≡ starts_of f → k < length starts →
    bytes_eq (get_or starts k d).name name ≡ true → named_from (parts_of f) k (drop k f.groups) name ≡ entries_named f name →
    entries_named f name ≡ group_at (layout f) k
named_here f starts k d name e h same is =
    let w = group_here f starts k d e h in
    let yes_ : bytes_eq w.group.name name ≡ true = ap (λ n. bytes_eq n name) w.name ∙ same in
    sym is ∙ ap (λ gs. named_from (parts_of f) k gs name) w.cut
    ∙ ap (λ (b : Bool). if b then placed_from (parts_of f) k 0 w.group.entries else named_from (parts_of f) (k + 1) (drop (k + 1) f.groups) name) yes_
    ∙ ap (λ n. placed_from (parts_of f) n 0 w.group.entries) (let z : k ≡ 0 + k = omega arith in z) ∙ sym w.placed_entries

-- it has another name
pub named_later : (f : Flow) (starts : List GroupStart) (k : ℕ) (d : GroupStart) (name : List ℕ) → starts ≡ starts_of f → k < length starts →
    bytes_eq (get_or starts k d).name name ≡ false → named_from (parts_of f) k (drop k f.groups) name ≡ entries_named f name →
    named_from (parts_of f) (k + 1) (drop (k + 1) f.groups) name ≡ entries_named f name
named_later f starts k d name e h other is =
    let w = group_here f starts k d e h in
    let no_ : bytes_eq w.group.name name ≡ false = ap (λ n. bytes_eq n name) w.name ∙ other in
    sym (ap (λ gs. named_from (parts_of f) k gs name) w.cut ∙ ap (λ (b : Bool). if b then placed_from (parts_of f) k 0 w.group.entries else named_from
    (parts_of f) (k + 1) (drop (k + 1) f.groups) name) no_) ∙ is

pub known_later : (f : Flow) (starts : List GroupStart) (k : ℕ) (d : GroupStart) (name : List ℕ) → starts ≡ starts_of f → k < length starts →
    bytes_eq (get_or starts k d).name name ≡ false → is_named name (drop k f.groups) ≡ is_named name f.groups →
    is_named name (drop (k + 1) f.groups) ≡ is_named name f.groups
known_later f starts k d name e h other is =
    let w = group_here f starts k d e h in
    let no_ : bytes_eq w.group.name name ≡ false = ap (λ n. bytes_eq n name) w.name ∙ other in
    sym (ap (is_named name) w.cut ∙ ap (λ (b : Bool). b || is_named name (drop (k + 1) f.groups)) no_) ∙ is

-- no group is left
none_left : (f : Flow) (starts : List GroupStart) (k : ℕ) → starts ≡ starts_of f → length starts ≤ k → drop k f.groups ≡ []
none_left f starts k e h = drop_all k f.groups (subst (λ n. n ≤ k) (ap length e ∙ length-starts f ∙ length-groups_from (parts_of f) 0 f.groups) h)

pub none_named : (f : Flow) (starts : List GroupStart) (k : ℕ) (name : List ℕ) → starts ≡ starts_of f → length starts ≤ k →
    named_from (parts_of f) k (drop k f.groups) name ≡ entries_named f name → entries_named f name ≡ []
none_named f starts k name e h is = sym is ∙ ap (λ gs. named_from (parts_of f) k gs name) (none_left f starts k e h)

pub none_known : (f : Flow) (starts : List GroupStart) (k : ℕ) (name : List ℕ) → starts ≡ starts_of f → length starts ≤ k →
    is_named name (drop k f.groups) ≡ is_named name f.groups → is_named name f.groups ≡ false
none_known f starts k name e h is = sym is ∙ ap (is_named name) (none_left f starts k e h)
