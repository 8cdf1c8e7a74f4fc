-- What the rules see of a flow: who is placed where, and who comes before and after whom.
use Rattle.std.specs.Prelude.{ℕ, ◌+◌, Bool, not, ◌&&◌, ◌||◌, List, [], ◌∷◌, take, drop, codes, if◌then◌else◌}
use Rattle.std.specs.List.{list_any}
use Rattle.std.specs.Str.{bytes_eq}
use Rattle.flow_model.specs.declared.flow.Flow.{Flow}
use Rattle.flow_model.specs.declared.flow.Group.{Group}
use Rattle.flow_model.specs.declared.flow.Entry.{Entry}

-- one of the entries is of the participant
abbrev pub has : List Entry → List ℕ → Bool
has es name = list_any (λ e. bytes_eq e.participant name) es

abbrev pub is_main : Group → Bool
is_main x = bytes_eq x.name (codes "main")

-- the entries of the group of this name: of the first if several have it, and none if no group has it
abbrev pub entries_in : List Group → List ℕ → List Entry
entries_in [] name = []
entries_in (x ∷ xs) name = if bytes_eq x.name name then x.entries else entries_in xs name

-- the group with which a transaction starts
abbrev pub main_of : Flow → List Entry
main_of f = entries_in f.groups (codes "main")

-- the index of the participant's first entry, or how many entries there are
abbrev pub index_of : List Entry → List ℕ → ℕ
index_of [] name = 0
index_of (e ∷ es) name = if bytes_eq e.participant name then 0 else index_of es name + 1

-- the flow picks groups by routes
abbrev pub picks_groups : Flow → Bool
picks_groups f = has (main_of f) (codes "route")

-- the entries of main before the selector, and those after it, between which the groups run that it picks
abbrev pub before_route : Flow → List Entry
before_route f = take (index_of (main_of f) (codes "route")) (main_of f)

abbrev pub after_route : Flow → List Entry
after_route f = drop (index_of (main_of f) (codes "route") + 1) (main_of f)

-- the participant is prepared before the entry of this index, on the way through main
abbrev pub comes_before : Flow → Group → ℕ → List ℕ → Bool
comes_before f x i name = has (take i x.entries) name || (not (is_main x) && has (before_route f) name)

-- the participant is prepared after it
abbrev pub comes_after : Flow → Group → ℕ → List ℕ → Bool
comes_after f x i name = has (drop (i + 1) x.entries) name || (not (is_main x) && has (after_route f) name)

-- the participant has an earlier place in the group, or a place in main beside that in another group
abbrev pub is_placed_before : Flow → Group → ℕ → List ℕ → Bool
is_placed_before f x i name = has (take i x.entries) name || (not (is_main x) && has (main_of f) name)
