-- Kinds looked up by name, as a map has them.
use Rattle.std.specs.Prelude.{◌≡◌, ℕ, List, Option, Some, None, if◌then◌else◌}
use Rattle.std.specs.Borrow.{Bor}
use Rattle.std.specs.Ordering.{nat_cmp}
use Rattle.std.specs.Cmp.Lexicographic.{slice_cmp}
use Rattle.std.specs.BTreeMap.{BTreeMap, get_by}
use Rattle.sw_participant.specs.declared.kind.Kind.{Kind}
use Rattle.flow_model.specs.declared.flow.Entry.{Entry}
use Rattle.flow_model.specs.declared.flow.Group.{Group}
use Rattle.flow_model.specs.declared.error.FlowError.{FlowError}
use Rattle.flow_model.specs.declared.error.FlowError.TheVariants.{KindClash}
use Rattle.flow_model.specs.Check.{first_kind, is_kind, kind_in}
use Rattle.sw_base.specs.Refusals.{first_at, or_else}

-- what the map has at a name
abbrev pub kind_at : BTreeMap (Bor (List ℕ)) Kind → List ℕ → Option Kind
kind_at m name = get_by (λ k. slice_cmp nat_cmp name k.now) m

-- the map has these kinds
abbrev pub Has : BTreeMap (Bor (List ℕ)) Kind → (List ℕ → Option Kind) → Type 0
Has m kinds = (name : List ℕ) → kind_at m name ≡ kinds name

-- kinds join a map at the names that it does not have
abbrev pub Joins : (old new : BTreeMap (Bor (List ℕ)) Kind) → (List ℕ → Option Kind) → Type 0
Joins old new kinds = (name : List ℕ) → kind_at new name ≡ or_else (kind_at old name) (kinds name)

-- by name, the kinds at the first places in these entries, and below in these groups
abbrev pub kinds_of_entries : List Entry → List ℕ → Option Kind
kinds_of_entries es name = kind_in name es

abbrev pub kinds_of_groups : List Group → List ℕ → Option Kind
kinds_of_groups gs name = first_kind name gs

-- an entry whose participant has a kind other than the looked-up one
abbrev pub clash_by : (List ℕ → Option Kind) → ℕ → ℕ → Entry → Option FlowError
clash_by look g i e = if is_kind e.kind (look e.participant) then None else Some (KindClash g i)

-- the first such entry of a group, and below of all groups
abbrev pub clash_in_by : (List ℕ → Option Kind) → ℕ → Group → Option FlowError
clash_in_by look g x = first_at (clash_by look g) 0 x.entries

abbrev pub clashes_by : (List ℕ → Option Kind) → List Group → Option FlowError
clashes_by look gs = first_at (clash_in_by look) 0 gs
