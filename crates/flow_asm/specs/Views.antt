-- What stands at a step.
use Rattle.std.specs.Prelude.{◌≡◌, ℕ, ◌<◌, length, Some, slice_get}
use Rattle.flow_model.specs.declared.flow.Flow.{Flow}
use Rattle.flow_model.specs.declared.flow.PlacedEntry.{PlacedEntry}
use Rattle.flow_model.specs.Places.{parts_of}
use Rattle.flow_asm.specs.declared.view.StepView.{StepView}
use Rattle.flow_asm.specs.declared.view.StepView.TheVariants as view
use Rattle.flow_asm.specs.Steps.{AtCall, AtPick, AtReturn, stages}

-- A call or a pick is that of an entry, whose participant is one of the flow's.
abbrev pub IsStepView : Flow → ℕ → StepView → Type 0
IsStepView f step (view.Call p kind) = (s : PlacedEntry) × (slice_get (stages f) step ≡ Some (AtCall s)) × (s.participant ≡ p) × (s.kind ≡ kind)
    × (p < length (parts_of f))
IsStepView f step (view.Pick p) = (s : PlacedEntry) × (slice_get (stages f) step ≡ Some (AtPick s)) × (s.participant ≡ p) × (p < length (parts_of f))
IsStepView f step view.Return = slice_get (stages f) step ≡ Some AtReturn
