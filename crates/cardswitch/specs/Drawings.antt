-- What `graph` has done, and why it ends early. What a flow file holds no clause can say; the flow of one is checked.
use Rattle.std.specs.Prelude.{◌≡◌, ◌⊎◌, ℕ, List, Option}
use Rattle.std.specs.Io.KnownBytes.{Appends}
use Rattle.cli_io.specs.Written.{AppendsBeginning}
use Rattle.flow_model.specs.Check.{IsChecked}
use Rattle.flow_model.specs.declared.flow.Flow.{Flow}
use Rattle.cli_graph.specs.Picture.{picture_of}
use Rattle.cli_forms.specs.declared.graph.GraphForm.{GraphForm}
use Rattle.cardswitch.specs.declared.error.RunError.{RunError}
use Rattle.cardswitch.specs.declared.error.RunError.TheVariants as error

-- the picture of a checked flow was written
abbrev pub IsDrawn : GraphForm → Option (List ℕ) → Option (List ℕ) → Type 0
IsDrawn form before after = (flow : Flow) × IsChecked flow × Appends before after (picture_of form flow)

-- a beginning of the picture of a checked flow was written
abbrev pub IsDrawnInPart : GraphForm → Option (List ℕ) → Option (List ℕ) → Type 0
IsDrawnInPart form before after =
    (flow : Flow) × IsChecked flow × AppendsBeginning before after (picture_of form flow)

-- why it was not: no flow was taken of the file at a path, and nothing is written; or writing failed
abbrev pub IsDrawFault : GraphForm → List ℕ → Option (List ℕ) → Option (List ℕ) → RunError → Type 0
IsDrawFault form path before after (error.FlowFile p cause) = (p ≡ path) × (after ≡ before)
IsDrawFault form path before after (error.Write e) = IsDrawnInPart form before after
IsDrawFault form path before after error.OutOfMemory = (after ≡ before) ⊎ IsDrawnInPart form before after
IsDrawFault form path before after _ = ⊥
