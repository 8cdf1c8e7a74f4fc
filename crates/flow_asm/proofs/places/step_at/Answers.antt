use Rattle.std.proofs.Common.{sym}
use Rattle.flow_asm.proofs.CallSearch.{call_place, called_at, start_first, start_past}
use Rattle.flow_asm.proofs.places.step_at.Goals as goal

pub returns-in_default-clause-value : goal.returns-in_default-clause-value
returns-in_default-clause-value c = start_past c.args.code.now c.args.group c.args.index c.groups.result.now c.groups.ensures c.in_default.ensures.lookup.3

pub returns-in_default-nth_call-clause-value : goal.returns-in_default-nth_call-clause-value
returns-in_default-nth_call-clause-value c =
    let start = start_first c.args.code.now c.args.group c.groups.result.now c.in-Some.start.now _ c.groups.ensures c.in-Some.ensures.lookup.3.0
    c.in-Some.ensures.lookup.1 in
    called_at c.args.code.now c.args.group c.args.index c.in-Some.start.now.first _ _ _ start.0 start.1 c.steps.ensures c.steps_from.ensures
    c.in_default-nth_call.ensures.value

pub returns-clause-value : goal.returns-clause-value
returns-clause-value c =
    let start = start_first c.args.code.now c.args.group c.groups.result.now c.in-Some.start.now _ c.groups.ensures c.in-Some.ensures.lookup.3.0
    c.in-Some.ensures.lookup.1 in
    called_at c.args.code.now c.args.group c.args.index c.in-Some.start.now.first _ _ _ start.0 start.1 c.steps.ensures c.steps_from.ensures
    c.in-Some-nth_call.ensures.value

pub returns-clause-place : goal.returns-clause-place
returns-clause-place c =
    let start = start_first c.args.code.now c.args.group c.groups.result.now c.in-Some.start.now _ c.groups.ensures c.in-Some.ensures.lookup.3.0
    c.in-Some.ensures.lookup.1 in
    call_place c.args.code.now c.args.group c.args.index _ (sym (called_at c.args.code.now c.args.group c.args.index c.in-Some.start.now.first _ _ _ start.0
    start.1 c.steps.ensures c.steps_from.ensures c.in-Some-nth_call.ensures.value))
