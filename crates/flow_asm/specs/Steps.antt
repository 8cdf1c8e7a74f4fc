-- The numbered steps of a flow, each with the entry whose step it is.
use Rattle.std.specs.Prelude.{ℕ, ◌+◌, List, [], ◌∷◌, ◌++◌, length, map, take, if◌then◌else◌}
use Rattle.std.specs.List.{flat_map}
use Rattle.flow_model.specs.declared.flow.Flow.{Flow}
use Rattle.flow_model.specs.declared.flow.Group.{Group}
use Rattle.flow_model.specs.declared.flow.PlacedEntry.{PlacedEntry}
use Rattle.flow_model.specs.declared.numbering.Part.{Part}
use Rattle.flow_model.specs.Places.{parts_of, placed_from}
use Rattle.flow_asm.specs.declared.code.GroupStart.{GroupStart}
use Rattle.flow_asm.specs.declared.code.Step.{Step}
use Rattle.flow_asm.specs.declared.code.Step.TheVariants.{Call, Pick, Return}

-- these groups, the first of which has index g, each as its entries at their places
abbrev pub groups_from : List Part → ℕ → List Group → List (List PlacedEntry)
groups_from parts g [] = []
groups_from parts g (x ∷ xs) = placed_from parts g 0 x.entries ∷ groups_from parts (g + 1) xs

-- the groups of a flow, each as its entries at their places
abbrev pub layout : Flow → List (List PlacedEntry)
layout f = groups_from (parts_of f) 0 f.groups

-- what a step represents: an entry's call, the question to a selector, or the end of a group
pub data Stage : Type 0 where
  AtCall : (s : PlacedEntry) → Stage
  AtPick : (s : PlacedEntry) → Stage
  AtReturn : Stage

-- an entry is called, and then asked if it is a selector
abbrev pub stages_of_entry : PlacedEntry → List Stage
stages_of_entry s = if s.kind.selector then AtCall s ∷ AtPick s ∷ [] else AtCall s ∷ []

-- a group ends with a return
abbrev pub stages_of_group : List PlacedEntry → List Stage
stages_of_group [] = AtReturn ∷ []
stages_of_group (s ∷ ss) = stages_of_entry s ++ stages_of_group ss

-- the groups stand one after the other
abbrev pub stages : Flow → List Stage
stages f = flat_map stages_of_group (layout f)

abbrev pub step_of : Stage → Step
step_of (AtCall s) = Call s.participant
step_of (AtPick s) = Pick s.participant
step_of AtReturn = Return

abbrev pub steps_of : Flow → List Step
steps_of f = map step_of (stages f)

-- how many steps the groups before this one have
abbrev pub first_step : Flow → ℕ → ℕ
first_step f g = length (flat_map stages_of_group (take g (layout f)))

-- these groups' names and first steps; the first of them has index g
abbrev pub starts_from : Flow → ℕ → List Group → List GroupStart
starts_from f g [] = []
starts_from f g (x ∷ xs) = record { name = x.name; first = first_step f g } ∷ starts_from f (g + 1) xs

-- the groups' names and first steps
abbrev pub starts_of : Flow → List GroupStart
starts_of f = starts_from f 0 f.groups
