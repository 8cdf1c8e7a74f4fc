use Rattle.std.proofs.Common.{◌≡◌, ℕ, ◌<◌, List, length, get_or, Some, map, subst, ap, sym, ◌∙◌, arith}
use Rattle.std.specs.Prelude.{slice_get}
use Rattle.std.proofs.lemmas.Option.{get_or_from_slice_get}
use Rattle.flow_model.specs.declared.flow.Flow.{Flow}
use Rattle.flow_model.specs.declared.flow.PlacedEntry.{PlacedEntry}
use Rattle.flow_model.specs.declared.numbering.Part.{Part}
use Rattle.flow_model.specs.Check.{IsChecked}
use Rattle.flow_model.specs.Places.{parts_of}
use Rattle.flow_asm.specs.declared.code.Step.{Step}
use Rattle.flow_asm.specs.Steps.{AtCall, stages, step_of, steps_of}
use Rattle.flow_asm.proofs.EntryKinds.{call_participant, kind_at, pick_participant}
use Rattle.flow_asm.proofs.StepCounts.{few_stages}
use Rattle.flow_asm.proofs.Stages.{call_shown, length-steps, pick_shown, read_step, return_shown}
use Rattle.flow_asm.proofs.code.Code.look.Goals as goal

-- the step that was read
read : (f : Flow) (steps : List Step) (k : ℕ) (d x : Step) → steps ≡ steps_of f → k < length (stages f) → get_or steps k d ≡ x →
    slice_get (map step_of (stages f)) k ≡ Some x
read f steps k d x e h r = read_step f steps k d x e (subst (λ n. k < n) (sym (ap length e ∙ length-steps f)) h) r

within : (f : Flow) (parts : List Part) (k p : ℕ) (s : PlacedEntry) → parts ≡ parts_of f → slice_get (stages f) k ≡ Some (AtCall s) → s.participant ≡ p →
    p < length parts
within f parts k p s e h n =
    subst (λ (ps : List Part). p < length ps) (sym e) (subst (λ m. m < length (parts_of f)) n (call_participant f k s h))

kind : (f : Flow) (parts : List Part) (k p : ℕ) (s : PlacedEntry) (d : Part) → IsChecked f → parts ≡ parts_of f → slice_get (stages f) k ≡ Some (AtCall s) →
    s.participant ≡ p → s.kind ≡ (get_or parts p d).kind
kind f parts k p s d c e h n =
    let w = kind_at f k s c h in
    sym (ap (λ (ps : List Part). (get_or ps p d).kind) e ∙ ap (λ m. (get_or (parts_of f) m d).kind) (sym n) ∙ ap (λ (x : Part). x.kind)
    (get_or_from_slice_get (parts_of f) s.participant w.0 d w.1) ∙ w.2)

pub bounds-participants-participant : goal.bounds-participants-participant
bounds-participants-participant c =
    let shown = call_shown (stages c.args.self.now) c.args.step c.in-Call.participant (read c.args.self.now _ _ _ _ c.steps.ensures c.requires c.in-Call.is) in
    within c.args.self.now _ c.args.step _ shown.0 c.participants.ensures.participants shown.1 shown.2

pub offset_bounds-participants-participant : goal.offset_bounds-participants-participant
offset_bounds-participants-participant c = omega (arith, bounds-participants-participant c)

pub returns-in-Call-clause-view : goal.returns-in-Call-clause-view
returns-in-Call-clause-view c =
    let shown = call_shown (stages c.args.self.now) c.args.step c.in-Call.participant
    (read c.args.self.now _ _ _ _ c.steps.ensures c.requires c.in-Call.is) in (
      shown.0,
      shown.1,
      shown.2,
      kind c.args.self.now _ c.args.step _ shown.0 _ c.is_checked.ensures c.participants.ensures.participants shown.1
          shown.2 ∙ ap (λ (x : Part). x.kind) (sym c.index-participants-participant.is),
      subst (λ m. m < length (parts_of c.args.self.now)) shown.2
          (call_participant c.args.self.now c.args.step shown.0 shown.1),
    )

pub returns-in-Pick-clause-view : goal.returns-in-Pick-clause-view
returns-in-Pick-clause-view c =
    let shown = pick_shown (stages c.args.self.now) c.args.step c.in-Pick.participant (read c.args.self.now _ _ _ _ c.steps.ensures c.requires c.in-Pick.is) in
    (shown.0, shown.1, shown.2, subst (λ m. m < length (parts_of c.args.self.now)) shown.2 (pick_participant c.args.self.now c.args.step shown.0 shown.1))

pub returns-in-Return-clause-view : goal.returns-in-Return-clause-view
returns-in-Return-clause-view c = return_shown (stages c.args.self.now) c.args.step (read c.args.self.now _ _ _ _ c.steps.ensures c.requires c.in-Return.is)

pub returns-in-Call-clause-small : goal.returns-in-Call-clause-small
returns-in-Call-clause-small c = few_stages c.args.self.now c.is_checked.ensures

pub returns-in-Pick-clause-small : goal.returns-in-Pick-clause-small
returns-in-Pick-clause-small c = few_stages c.args.self.now c.is_checked.ensures

pub returns-in-Return-clause-small : goal.returns-in-Return-clause-small
returns-in-Return-clause-small c = few_stages c.args.self.now c.is_checked.ensures
