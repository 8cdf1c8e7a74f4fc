-- Which entry a step belongs to, and which step calls an entry.
use Rattle.std.specs.Prelude.{◌≡◌, ◌⊎◌, ℕ, zero, suc, ◌+◌, ◌-◌, Bool, true, false, List, [], ◌∷◌, length, take, nat_lt, if◌then◌else◌, Option, Some, None}
use Rattle.std.specs.Prelude.{slice_get}
use Rattle.std.specs.List.{flat_map}
use Rattle.flow_model.specs.declared.flow.Flow.{Flow}
use Rattle.flow_model.specs.declared.flow.PlacedEntry.{PlacedEntry}
use Rattle.flow_asm.specs.declared.code.Step.{Step}
use Rattle.flow_asm.specs.declared.code.Step.TheVariants.{Pick}
use Rattle.flow_asm.specs.Steps.{Stage, AtCall, AtPick, AtReturn, first_step, layout, stages, stages_of_entry, steps_of}

abbrev pub place_at : Option Stage → Option (ℕ × ℕ)
place_at None = None
place_at (Some (AtCall s)) = Some (s.group, s.index)
place_at (Some (AtPick s)) = Some (s.group, s.index)
place_at (Some AtReturn) = None

-- the place (group, index) of a step's entry; a return has none
abbrev pub place_of : Flow → ℕ → Option (ℕ × ℕ)
place_of f step = place_at (slice_get (stages f) step)

-- the entries of a group; none where the flow has no such group
abbrev pub group_at : List (List PlacedEntry) → ℕ → List PlacedEntry
group_at [] g = []
group_at (ss ∷ gs) zero = ss
group_at (ss ∷ gs) (suc g) = group_at gs g

-- how many steps a group's entries before this one have
abbrev pub call_within : List PlacedEntry → ℕ → ℕ
call_within ss i = length (flat_map stages_of_entry (take i ss))

-- the step that calls the entry: it stands after the steps of the groups and entries before it
abbrev pub call_step : Flow → ℕ → ℕ → ℕ
call_step f g i = first_step f g + call_within (group_at (layout f) g) i

-- that step, if the flow has the entry
abbrev pub call_of : Flow → ℕ → ℕ → Option ℕ
call_of f g i = if nat_lt i (length (group_at (layout f) g)) then Some (call_step f g i) else None

abbrev pub is_pick : Option Step → Bool
is_pick (Some (Pick p)) = true
is_pick step = false

-- the step calls the entry, or is the pick after the step that does
abbrev pub IsStepOf : Flow → ℕ → ℕ → ℕ → Type 0
IsStepOf f g i step = (call_of f g i ≡ Some step) ⊎ ((is_pick (slice_get (steps_of f) step) ≡ true) × (call_of f g i ≡ Some (step - 1)))
