-- The shapes in which the loops write the steps of a flow.
use Rattle.std.specs.Prelude.{List, [], ◌∷◌, ◌++◌, if◌then◌else◌}
use Rattle.std.specs.List.{flat_map}
use Rattle.flow_model.specs.declared.flow.Group.{Group}
use Rattle.flow_model.specs.declared.flow.Entry.{Entry}
use Rattle.flow_model.specs.declared.numbering.Part.{Part}
use Rattle.flow_model.specs.Places.{number_in}
use Rattle.flow_asm.specs.declared.code.Step.{Step}
use Rattle.flow_asm.specs.declared.code.Step.TheVariants.{Call, Pick, Return}

abbrev pub entry_steps : List Part → Entry → List Step
entry_steps parts e = if e.kind.selector then Call (number_in parts e.participant) ∷ Pick (number_in parts e.participant) ∷ [] else Call
    (number_in parts e.participant) ∷ []

abbrev pub group_steps : List Part → Group → List Step
group_steps parts g = flat_map (entry_steps parts) g.entries ++ Return ∷ []

abbrev pub all_steps : List Part → List Group → List Step
all_steps parts gs = flat_map (group_steps parts) gs
