use Rattle.std.proofs.Common.{◌∙◌, ap, sym, subst, arith, ◌+◌, ◌-◌, drop, length}
use Rattle.std.proofs.lemmas.Option.{slice_get_past}
use Rattle.flow_asm.specs.Places.{IsStepOf, place_at, place_of}
use Rattle.flow_asm.specs.Steps.{stages}
use Rattle.flow_asm.proofs.StepPlaces.{Counted, call_read, counted_at, goes_on, group_past_first, moved, pick_read, return_read}
use Rattle.flow_asm.proofs.Stages.{length-steps}
use Rattle.flow_asm.proofs.places.place.Goals as goal
use Rattle.flow_asm.proofs.places.place.Goals.{in-Call+else-number-step, in-Pick+else-number-step-2, in-Return+else-number-step-3}

pub loop-number-init : goal.loop-number-init
loop-number-init c = record {
  counted = subst (λ n. Counted c.args.code.now n c.last_before-before.result.group 0 (drop n (stages c.args.code.now)))
      (sym c.last_before-before.ensures.first) (counted_at c.args.code.now c.last_before-before.result.group c.last_before-before.ensures.within);
  group = omega (
    arith,
    group_past_first c.args.code.now c.last_before-before.result.group c.last_before-before.ensures.within,
    c.last_before-before.ensures.first,
  );
  next = omega arith;
  step = c.last_before-before.ensures.before;
}

pub returns-then-number-step-clause-value : goal.returns-then-number-step-clause-value
returns-then-number-step-clause-value c =
    let w = call_read c.args.code.now _ _ _ _ _ _ c.steps-all.ensures c.loop-number-test.true c.loop-number.invariant.counted c.in-Call.is in
    sym w.place ∙ ap (place_of c.args.code.now) c.if-number-step.true

pub returns-then-number-step-clause-entry : goal.returns-then-number-step-clause-entry
returns-then-number-step-clause-entry c =
    let w = call_read c.args.code.now _ _ _ _ _ _ c.steps-all.ensures c.loop-number-test.true c.loop-number.invariant.counted c.in-Call.is in
    subst (IsStepOf c.args.code.now c.loop-number.group c.loop-number.next) c.if-number-step.true w.entry

pub overflow_sub-result : goal.overflow_sub-result
overflow_sub-result c = (pick_read c.args.code.now _ _ _ _ _ _ c.steps-all.ensures c.loop-number-test.true c.loop-number.invariant.counted c.in-Pick.is).some

pub returns-then-number-step-2-clause-value : goal.returns-then-number-step-2-clause-value
returns-then-number-step-2-clause-value c =
    let w = pick_read c.args.code.now _ _ _ _ _ _ c.steps-all.ensures c.loop-number-test.true c.loop-number.invariant.counted c.in-Pick.is in
    sym w.place ∙ ap (place_of c.args.code.now) c.if-number-step-2.true

pub returns-then-number-step-2-clause-entry : goal.returns-then-number-step-2-clause-entry
returns-then-number-step-2-clause-entry c =
    let w = pick_read c.args.code.now _ _ _ _ _ _ c.steps-all.ensures c.loop-number-test.true c.loop-number.invariant.counted c.in-Pick.is in
    subst (IsStepOf c.args.code.now c.loop-number.group (c.loop-number.next - 1)) c.if-number-step-2.true w.entry

pub returns-then-number-step-3-clause-value : goal.returns-then-number-step-3-clause-value
returns-then-number-step-3-clause-value c =
    let w = return_read c.args.code.now _ _ _ _ _ c.steps-all.ensures c.loop-number-test.true c.loop-number.invariant.counted c.in-Return.is in
    sym w.place ∙ ap (place_of c.args.code.now) c.if-number-step-3.true

pub loop-number-preserved : goal.loop-number-preserved
loop-number-preserved c = elim c.match-all-number.branch [
  | in-Call+else-number-step w ↦ record {
    counted = moved c.args.code.now (c.loop-number.number + 1) _ _ _ _ (drop (c.loop-number.number + 1) (stages c.args.code.now)) w.group-is w.next-is
        (call_read c.args.code.now _ _ _ _ _ _ c.steps-all.ensures c.loop-number-test.true c.loop-number.invariant.counted w.in-Call.is).next;
    group = omega (arith, w.group-is, c.loop-number.invariant.group);
    next = omega (arith, w.next-is, c.loop-number.invariant.next);
    step = goes_on _ _ c.loop-number.invariant.step w.if-number-step.false;
  }
  | in-Pick+else-number-step-2 w ↦ record {
    counted = moved c.args.code.now (c.loop-number.number + 1) _ _ _ _ (drop (c.loop-number.number + 1) (stages c.args.code.now)) w.group-is w.next-is
        (pick_read c.args.code.now _ _ _ _ _ _ c.steps-all.ensures c.loop-number-test.true c.loop-number.invariant.counted w.in-Pick.is).next;
    group = omega (arith, w.group-is, c.loop-number.invariant.group);
    next = omega (arith, w.next-is, c.loop-number.invariant.next);
    step = goes_on _ _ c.loop-number.invariant.step w.if-number-step-2.false;
  }
  | in-Return+else-number-step-3 w ↦ record {
    counted = moved c.args.code.now (c.loop-number.number + 1) _ _ _ _ (drop (c.loop-number.number + 1) (stages c.args.code.now)) w.group-is w.next-is
        (return_read c.args.code.now _ _ _ _ _ c.steps-all.ensures c.loop-number-test.true c.loop-number.invariant.counted w.in-Return.is).next;
    group = omega (arith, w.group-is, c.loop-number.invariant.group);
    next = omega (arith, w.next-is);
    step = goes_on _ _ c.loop-number.invariant.step w.if-number-step-3.false;
  }
]

pub returns-clause-value : goal.returns-clause-value
returns-clause-value c = sym (ap place_at (slice_get_past (stages c.args.code.now) c.args.step
    (omega (arith, length-steps c.args.code.now, ap length c.steps-all.ensures, c.loop-number-test.false, c.loop-number.invariant.step))))
