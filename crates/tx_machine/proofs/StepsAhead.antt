-- What is to come from a step on.
-- for: walk::look, walk::group_step, walk::last_step, walk::next_due
use Rattle.std.proofs.Common.{◌≡◌, ℕ, suc, ◌+◌, ◌<◌, Bool, true, false, ⊎_elim, List, [], ◌∷◌, ◌++◌, length, map, drop, Some, refl, sym, ap, ◌∙◌, subst, arith}
use Rattle.std.proofs.Common.{append_assoc, if◌then◌else◌}
use Rattle.std.specs.Prelude.{slice_get}
use Rattle.std.specs.List.{flat_map}
use Rattle.std.proofs.lemmas.List.{append-nil}
use Rattle.flow_model.specs.declared.flow.Flow.{Flow}
use Rattle.flow_model.specs.declared.flow.PlacedEntry.{PlacedEntry}
use Rattle.flow_asm.specs.Steps.{Stage, AtCall, AtPick, AtReturn, first_step, layout, stages, stages_of_group}
use Rattle.flow_asm.specs.Places.{group_at}
use Rattle.flow_asm.specs.declared.view.StepView.{StepView}
use Rattle.flow_asm.specs.declared.view.StepView.TheVariants as view
use Rattle.flow_asm.specs.Views.{IsStepView}
use Rattle.flow_asm.proofs.Stages.{front, group_front}
use Rattle.flow_asm.proofs.StepOrder.{Goes, Picks, after_call, after_pick, goes_group, goes_within, picks_within}
use Rattle.tx_machine.specs.declared.walk.StackFrame.{StackFrame}
use Rattle.tx_machine.specs.Table.{Prepare, Select}
use Rattle.tx_machine.specs.Position.{calls_of, upcoming_from, upcoming_at, left_from, left_at, IsAhead, frame_upcoming, stack_upcoming}
use Rattle.tx_machine.specs.Position.{frame_left, stack_left}
use Rattle.tx_machine.specs.Position.{IsCall, IsPick, IsReturn}

goes_upcoming : (xs : List Stage) → Goes xs → upcoming_from xs ≡ calls_of xs
goes_upcoming [] h = refl
goes_upcoming (AtCall s ∷ xs) h = refl
goes_upcoming (AtPick s ∷ xs) h = absurd h
goes_upcoming (AtReturn ∷ xs) h = refl

picks_upcoming : (s : PlacedEntry) (xs : List Stage) → Picks s xs → upcoming_from xs ≡ Select s ∷ calls_of xs
picks_upcoming s [] h = absurd h
picks_upcoming s (AtCall t ∷ xs) h = absurd h
picks_upcoming s (AtPick t ∷ xs) h = ap (λ u. Select u ∷ calls_of xs) h
picks_upcoming s (AtReturn ∷ xs) h = absurd h

pub is_call : (f : Flow) (k : ℕ) (s : PlacedEntry) → slice_get (stages f) k ≡ Some (AtCall s) → IsCall f k s (calls_of (drop (k + 1) (stages f)))
is_call f k s h =
    let e = front (stages f) k (AtCall s) h in
    let xs : List Stage = drop (k + 1) (stages f) in
    record {
      stage = h;
      next = ⊎_elim (λ (p : (s.kind.selector ≡ true) × Picks s xs). picks_within f (k + 1) s p.1)
          (λ (p : (s.kind.selector ≡ false) × Goes xs). goes_within f (k + 1) p.1) (after_call f k s h);
      upcoming = ap upcoming_from e;
      after = ⊎_elim (λ (p : (s.kind.selector ≡ true) × Picks s xs). picks_upcoming s xs p.1 ∙ ap (λ b. if b then Select s ∷ calls_of xs else calls_of xs)
          (sym p.0)) (λ (p : (s.kind.selector ≡ false) × Goes xs). goes_upcoming xs p.1 ∙ ap (λ b. if b then Select s ∷ calls_of xs else calls_of xs)
          (sym p.0)) (after_call f k s h);
      left = ap left_from e;
    }

pub is_pick : (f : Flow) (k : ℕ) (s : PlacedEntry) → slice_get (stages f) k ≡ Some (AtPick s) → IsPick f k s
is_pick f k s h =
    let e = front (stages f) k (AtPick s) h in
    let xs : List Stage = drop (k + 1) (stages f) in
    record {
      stage = h;
      next = goes_within f (k + 1) (after_pick f k s h);
      upcoming = ap upcoming_from e ∙ ap (λ ms. Select s ∷ ms) (sym (goes_upcoming xs (after_pick f k s h)));
    }

pub is_return : (f : Flow) (k : ℕ) → slice_get (stages f) k ≡ Some AtReturn → IsReturn f k
is_return f k h =
    let e = front (stages f) k AtReturn h in
    record { stage = h; upcoming = ap upcoming_from e; left = ap left_from e }

pub ahead : (f : Flow) (k : ℕ) (v : StepView) → IsStepView f k v → IsAhead f k v
ahead f k (view.Call p kind) (s, h, ep, ek, b) = (s, calls_of (drop (k + 1) (stages f)), is_call f k s h, ep, ek, b)
ahead f k (view.Pick p) (s, h, ep, b) = (s, is_pick f k s h, ep, b)
ahead f k view.Return h = is_return f k h

-- a group's calls are its entries
group_calls : (ss : List PlacedEntry) (more : List Stage) → calls_of (stages_of_group ss ++ more) ≡ map Prepare ss
group_calls [] more = refl
group_calls (s ∷ ss) more = by s.kind.selector (ap (λ ms. Prepare s ∷ ms) (group_calls ss more))
  where
    by : (b : Bool) → Prepare s ∷ calls_of (stages_of_group ss ++ more) ≡ Prepare s ∷ map Prepare ss →
        calls_of (((if b then AtCall s ∷ AtPick s ∷ [] else AtCall s ∷ []) ++ stages_of_group ss) ++ more) ≡ Prepare s ∷ map Prepare ss
    by true e = e
    by false e = e

group_lefts : (ss : List PlacedEntry) (more : List Stage) → left_from (stages_of_group ss ++ more) ≡ length (stages_of_group ss)
group_lefts [] more = refl
group_lefts (s ∷ ss) more = by s.kind.selector (group_lefts ss more)
  where
    by : (b : Bool) → left_from (stages_of_group ss ++ more) ≡ length (stages_of_group ss) →
        left_from (((if b then AtCall s ∷ AtPick s ∷ [] else AtCall s ∷ []) ++ stages_of_group ss) ++ more)
        ≡ length ((if b then AtCall s ∷ AtPick s ∷ [] else AtCall s ∷ []) ++ stages_of_group ss)
    by true e = omega arith
    by false e = omega arith

-- a group's first step
pub record IsFirst (f : Flow) (g step : ℕ) : Type 0 where
  pub within : step < length (stages f)
  pub upcoming : upcoming_at f step ≡ map Prepare (group_at (layout f) g)
  pub left : left_at f step ≡ length (stages_of_group (group_at (layout f) g))

pub is_first : (f : Flow) (g : ℕ) → g < length (layout f) → IsFirst f g (first_step f g)
is_first f g h =
    let e = group_front (layout f) g h in
    let ss : List PlacedEntry = group_at (layout f) g in
    let more : List Stage = flat_map stages_of_group (drop (suc g) (layout f)) in
    record {
      within = goes_within f (first_step f g) (subst Goes (sym e) (goes_group ss more));
      upcoming = ap upcoming_from e ∙ goes_upcoming (stages_of_group ss ++ more) (goes_group ss more) ∙ group_calls ss more;
      left = ap left_from e ∙ group_lefts ss more;
    }

-- the top frame
pub stack_upcoming_top : (f : Flow) (xs : List StackFrame) (frame : StackFrame)
    → stack_upcoming f (xs ++ frame ∷ []) ≡ frame_upcoming f frame ++ stack_upcoming f xs
stack_upcoming_top f [] frame = sym (append-nil (frame_upcoming f frame))
stack_upcoming_top f (x ∷ xs) frame = ap (λ ms. ms ++ frame_upcoming f x) (stack_upcoming_top f xs frame) ∙ append_assoc (frame_upcoming f frame)
    (stack_upcoming f xs) (frame_upcoming f x)

pub stack_left_top : (f : Flow) (xs : List StackFrame) (frame : StackFrame) → stack_left f (xs ++ frame ∷ []) ≡ frame_left f frame + stack_left f xs
stack_left_top f [] frame = omega arith
stack_left_top f (x ∷ xs) frame = omega (arith, stack_left_top f xs frame)
