-- The first fault of a flow, in the order in which a flow is checked: its size, the retries, the
-- names, doubled groups, the group `main`, clashing kinds.
use Rattle.std.specs.Prelude.{◌≡◌, ℕ, Bool, false, not, ◌&&◌, ◌||◌, List, [], ◌∷◌, length, take, nat_lt, sum_by, Option, Some, None, codes, if◌then◌else◌}
use Rattle.std.specs.List.{list_any}
use Rattle.std.specs.Str.{bytes_eq}
use Rattle.sw_participant.specs.declared.kind.Kind.{Kind}
use Rattle.flow_model.specs.declared.flow.Flow.{Flow}
use Rattle.flow_model.specs.declared.flow.Group.{Group}
use Rattle.flow_model.specs.declared.flow.Entry.{Entry}
use Rattle.flow_model.specs.declared.error.FlowError.{FlowError}
use Rattle.flow_model.specs.declared.error.FlowError.TheVariants.{TooLarge, BadRetries, BadName, DoubleGroup, NoMain, KindClash}
use Rattle.sw_base.specs.Refusals.{first_at, or_else, refused_if}
use Rattle.sw_context.specs.Names.{is_name}

-- some group has more than 256 entries
abbrev pub has_large_group : List Group → Bool
has_large_group gs = list_any (λ g. nat_lt 256 (length g.entries)) gs

-- how many entries all groups have together
abbrev pub entries_in_all : List Group → ℕ
entries_in_all gs = sum_by (λ (g : Group). length g.entries) gs

-- too many groups, or too many entries in one group or in all
abbrev pub is_large : Flow → Bool
is_large f = (nat_lt 256 (length f.groups) || has_large_group f.groups) || nat_lt 16384 (entries_in_all f.groups)

abbrev pub large : Flow → Option FlowError
large f = refused_if (is_large f) TooLarge

abbrev pub bad_retries : Flow → Option FlowError
bad_retries f = refused_if (nat_lt 100 f.retries) BadRetries

abbrev pub size_fault : Flow → Option FlowError
size_fault f = or_else (large f) (bad_retries f)

-- the fault of a bad name: of group g, or of its entry i
abbrev pub bad_name : ℕ → Option ℕ → List ℕ → Option FlowError
bad_name g i n = if is_name n then None else Some (BadName g i)

abbrev pub bad_entry : ℕ → ℕ → Entry → Option FlowError
bad_entry g i e = bad_name g (Some i) e.participant

-- a group's name, then its entries' names
abbrev pub bad_group : ℕ → Group → Option FlowError
bad_group g x = or_else (bad_name g None x.name) (first_at (bad_entry g) 0 x.entries)

-- one of the groups has the name
abbrev pub is_named : List ℕ → List Group → Bool
is_named n gs = list_any (λ g. bytes_eq g.name n) gs

-- a group whose name an earlier one has
abbrev pub double_group : List Group → ℕ → Group → Option FlowError
double_group gs g x = refused_if (is_named x.name (take g gs)) (DoubleGroup g)

abbrev pub no_main : List Group → Option FlowError
no_main gs = if is_named (codes "main") gs then None else Some NoMain

-- a participant's kind at its first place
abbrev pub kind_in : List ℕ → List Entry → Option Kind
kind_in n [] = None
kind_in n (e ∷ es) = if bytes_eq e.participant n then Some e.kind else kind_in n es

-- the same in whole groups
abbrev pub first_kind : List ℕ → List Group → Option Kind
first_kind n [] = None
first_kind n (g ∷ gs) = or_else (kind_in n g.entries) (first_kind n gs)

abbrev pub same : Bool → Bool → Bool
same a b = if a then b else not b

abbrev pub same_kind : Kind → Kind → Bool
same_kind a b = (same a.selector b.selector && same a.abort_aware b.abort_aware) && same a.recovers b.recovers

-- there is such a kind, and it is this one
abbrev pub is_kind : Kind → Option Kind → Bool
is_kind k None = false
is_kind k (Some l) = same_kind k l

-- an entry whose participant has a kind other than that at its first place
abbrev pub clash : List Group → ℕ → ℕ → Entry → Option FlowError
clash gs g i e = if is_kind e.kind (first_kind e.participant gs) then None else Some (KindClash g i)

-- the first such entry of a group, and below of all groups
abbrev pub clash_in : List Group → ℕ → Group → Option FlowError
clash_in gs g x = first_at (clash gs g) 0 x.entries

abbrev pub clashes : List Group → Option FlowError
clashes gs = first_at (clash_in gs) 0 gs

-- names, doubled groups, the group `main`, clashing kinds
abbrev pub name_fault : Flow → Option FlowError
name_fault f = or_else (first_at bad_group 0 f.groups) (or_else (first_at (double_group f.groups) 0 f.groups) (or_else (no_main f.groups) (clashes f.groups)))

unfoldable pub first_fault : Flow → Option FlowError
first_fault f = or_else (size_fault f) (name_fault f)

-- a checked flow has no fault
abbrev pub IsChecked : Flow → Type 0
IsChecked f = first_fault f ≡ None
