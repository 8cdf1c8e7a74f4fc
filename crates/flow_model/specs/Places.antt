-- The places of a flow's entries, and how its participants are numbered.
use Rattle.std.specs.Prelude.{ℕ, ◌+◌, ◌<◌, List, [], ◌∷◌, ◌++◌, length, nat_lt, if◌then◌else◌}
use Rattle.std.specs.List.{flat_map}
use Rattle.std.specs.Str.{bytes_eq}
use Rattle.flow_model.specs.declared.flow.Flow.{Flow}
use Rattle.flow_model.specs.declared.flow.Group.{Group}
use Rattle.flow_model.specs.declared.flow.Entry.{Entry}
use Rattle.flow_model.specs.declared.flow.PlacedEntry.{PlacedEntry}
use Rattle.flow_model.specs.declared.numbering.Part.{Part}

-- the number of the participant of this name, or how many there are
abbrev pub number_in : List Part → List ℕ → ℕ
number_in [] name = 0
number_in (p ∷ ps) name = if bytes_eq p.name name then 0 else number_in ps name + 1

-- a participant joins the numbered ones at its first appearance
abbrev pub add_new : List Part → Entry → List Part
add_new parts e = if nat_lt (number_in parts e.participant) (length parts) then parts else parts ++ record { name = e.participant; kind = e.kind } ∷ []

-- so do the participants of these entries, one after the other
abbrev pub parts_from : List Part → List Entry → List Part
parts_from parts [] = parts
parts_from parts (e ∷ es) = parts_from (add_new parts e) es

abbrev pub entries_of : List Group → List Entry
entries_of gs = flat_map (λ (g : Group). g.entries) gs

abbrev pub all_entries : Flow → List Entry
all_entries f = entries_of f.groups

-- the participants of a flow, in the order of first appearance
abbrev pub parts_of : Flow → List Part
parts_of f = parts_from [] (all_entries f)

-- an entry at its place
abbrev pub placed_entry : List Part → ℕ → ℕ → Entry → PlacedEntry
placed_entry parts g i e = record { group = g; index = i; participant = number_in parts e.participant; kind = e.kind }

-- entries of a group, from an index on
abbrev pub placed_from : List Part → ℕ → ℕ → List Entry → List PlacedEntry
placed_from parts g i [] = []
placed_from parts g i (e ∷ es) = placed_entry parts g i e ∷ placed_from parts g (i + 1) es

-- the entries of the group of this name, at their places: of the first such group if several have the
-- name, and none if no group has it
abbrev pub named_from : List Part → ℕ → List Group → List ℕ → List PlacedEntry
named_from parts g [] name = []
named_from parts g (x ∷ xs) name = if bytes_eq x.name name then placed_from parts g 0 x.entries else named_from parts (g + 1) xs name

abbrev pub entries_named : Flow → List ℕ → List PlacedEntry
entries_named f name = named_from (parts_of f) 0 f.groups name

-- the entry's participant is one of the flow's
abbrev pub IsOfParticipant : Flow → PlacedEntry → Type 0
IsOfParticipant f s = s.participant < length (parts_of f)
