-- What a step and a stack represent: what is still to come.
--
-- The machine.
--
-- `upcoming_at f step`: what is to come from a step on, up to the end of its group: its entries,
-- a selection that stands first before them. The frames of the stack are the selections under
-- way: each leads to the entries of the groups that it has not entered, then to what is upcoming
-- at the step that it goes back to. `tx_state f m` is the state that a machine represents: its
-- `rest` is what is upcoming at its step, then that of its stack. `IsSound` says that step and
-- stack are of this flow, that a call is due or nothing is to come, and that there were at most
-- 1,000 answers and choices. `TakesItem` is what becomes of an item that a machine is given. It
-- is taken exactly where it is due, and otherwise refused as NotDue. Out of memory comes last,
-- and a refusal changes nothing.
use Rattle.std.specs.Prelude.{◌≡◌, ℕ, ◌+◌, ◌<◌, List, [], ◌∷◌, ◌++◌, length, map, drop, Some, slice_get}
use Rattle.std.specs.List.{flat_map, All}
use Rattle.flow_model.specs.declared.flow.Flow.{Flow}
use Rattle.flow_model.specs.declared.flow.PlacedEntry.{PlacedEntry}
use Rattle.flow_model.specs.Places.{parts_of}
use Rattle.flow_asm.specs.declared.view.StepView.{StepView}
use Rattle.flow_asm.specs.declared.view.StepView.TheVariants as view
use Rattle.flow_asm.specs.Steps.{Stage, AtCall, AtPick, AtReturn, layout, stages, stages_of_group}
use Rattle.flow_asm.specs.Places.{group_at}
use Rattle.tx_machine.specs.declared.walk.StackFrame.{StackFrame}
use Rattle.tx_machine.specs.Table.{Upcoming, Prepare, Select, entered}

-- the calls up to the next return
abbrev pub calls_of : List Stage → List Upcoming
calls_of [] = []
calls_of (AtCall s ∷ xs) = Prepare s ∷ calls_of xs
calls_of (AtPick s ∷ xs) = calls_of xs
calls_of (AtReturn ∷ xs) = []

-- the same, with the pick that stands first
abbrev pub upcoming_from : List Stage → List Upcoming
upcoming_from [] = []
upcoming_from (AtCall s ∷ xs) = Prepare s ∷ calls_of xs
upcoming_from (AtPick s ∷ xs) = Select s ∷ calls_of xs
upcoming_from (AtReturn ∷ xs) = []

-- what is to come from a step on, up to the end of its group
abbrev pub upcoming_at : Flow → ℕ → List Upcoming
upcoming_at f step = upcoming_from (drop step (stages f))

-- the entries of these groups
abbrev pub entries_in : Flow → List ℕ → List PlacedEntry
entries_in f groups = flat_map (group_at (layout f)) groups

-- the groups still to be entered, and then what the way back leads to
abbrev pub frame_upcoming : Flow → StackFrame → List Upcoming
frame_upcoming f frame = map Prepare (entries_in f frame.pending.items) ++ upcoming_at f frame.back

-- what a frame says
abbrev pub shown : StackFrame → ℕ × List ℕ
shown frame = (frame.back, frame.pending.items)

-- the last frame is the top one
abbrev pub stack_upcoming : Flow → List StackFrame → List Upcoming
stack_upcoming f [] = []
stack_upcoming f (frame ∷ above) = stack_upcoming f above ++ frame_upcoming f frame

-- all that is to come at a step with this stack
abbrev pub rest_of : Flow → ℕ → List StackFrame → List Upcoming
rest_of f step stack = upcoming_at f step ++ stack_upcoming f stack

-- how many steps can be taken from a step on, the return among them
abbrev pub left_from : List Stage → ℕ
left_from [] = 0
left_from (AtCall s ∷ xs) = left_from xs + 1
left_from (AtPick s ∷ xs) = left_from xs + 1
left_from (AtReturn ∷ xs) = 1

-- the same at a step of the flow, and below of groups, of a frame and of a stack
abbrev pub left_at : Flow → ℕ → ℕ
left_at f step = left_from (drop step (stages f))

abbrev pub groups_left : Flow → List ℕ → ℕ
groups_left f [] = 0
groups_left f (g ∷ gs) = length (stages_of_group (group_at (layout f) g)) + groups_left f gs

abbrev pub frame_left : Flow → StackFrame → ℕ
frame_left f frame = groups_left f frame.pending.items + left_at f frame.back

abbrev pub stack_left : Flow → List StackFrame → ℕ
stack_left f [] = 0
stack_left f (frame ∷ above) = stack_left f above + frame_left f frame

-- a frame of this flow
pub record IsStackFrame (f : Flow) (frame : StackFrame) : Type 0 where
  pub back : frame.back < length (stages f)
  pub pending : All (λ g. g < length (layout f)) frame.pending.items

-- what stands at a step, with what follows of what is to come
pub record IsCall (f : Flow) (step : ℕ) (s : PlacedEntry) (tail : List Upcoming) : Type 0 where
  pub stage : slice_get (stages f) step ≡ Some (AtCall s)
  pub next : step + 1 < length (stages f)
  pub upcoming : upcoming_at f step ≡ Prepare s ∷ tail
  pub after : upcoming_at f (step + 1) ≡ entered s tail
  pub left : left_at f step ≡ left_at f (step + 1) + 1

pub record IsPick (f : Flow) (step : ℕ) (s : PlacedEntry) : Type 0 where
  pub stage : slice_get (stages f) step ≡ Some (AtPick s)
  pub next : step + 1 < length (stages f)
  pub upcoming : upcoming_at f step ≡ Select s ∷ upcoming_at f (step + 1)

pub record IsReturn (f : Flow) (step : ℕ) : Type 0 where
  pub stage : slice_get (stages f) step ≡ Some AtReturn
  pub upcoming : upcoming_at f step ≡ []
  pub left : left_at f step ≡ 1

-- what is to come from a step on, by what stands there; the participant is one of the flow's
abbrev pub IsAhead : Flow → ℕ → StepView → Type 0
IsAhead f step (view.Call p kind) = (s : PlacedEntry) × (tail : List Upcoming) × IsCall f step s tail × (s.participant ≡ p) × (s.kind ≡ kind)
    × (p < length (parts_of f))
IsAhead f step (view.Pick p) = (s : PlacedEntry) × IsPick f step s × (s.participant ≡ p) × (p < length (parts_of f))
IsAhead f step view.Return = IsReturn f step
