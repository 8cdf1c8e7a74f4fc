-- Each step by the lemma for its role: a search through all facts takes long.
use Rattle.std.proofs.Common.{◌∙◌, ◌+◌, Ok, Err, sym, ap}
use Rattle.std.proofs.lemmas.List.{take_rest}
use Rattle.std.proofs.lemmas.Result.{IfOk-from_err, err_from_is_err_and}
use Rattle.flow_load.proofs.GroupWalk.{called, ended, picked, returned, stopped}
use Rattle.flow_load.proofs.ItemLoop.{fails_through, fails_when}
use Rattle.flow_load.proofs.groups.read_group.Goals as goal
use Rattle.flow_load.proofs.groups.read_group.Goals.{in-Calls+in_ok-add_entry-in-Calls, in-Picks}

pub loop-k-preserved : goal.loop-k-preserved
loop-k-preserved c = elim c.match-branch-2.branch [
  | in-Calls+in_ok-add_entry-in-Calls w ↦
      rw (w.entries-is, w.in_ok-add_entry-in-Calls.ensures.ok, w.select_due-is, w.wanted-select_due.ensures, w.seen-is, w.max-seen.ensures)
      (called c.args.parts.now c.args.line c.args.group c.args.left.at c.loop-k.k c.loop-k.select_due c.loop-k.seen c.args.left.steps.now c.loop-k.entries.items _ _
      w.in-Calls.number c.loop-k-test.true (c.in_ok-number.ensures.read ∙ ap Ok w.in-Calls.is) c.loop-k.invariant)
  | in-Picks w ↦
      rw (w.entries-is, w.select_due-is, w.seen-is)
      (picked c.args.parts.now c.args.line c.args.group c.args.left.at c.loop-k.k c.loop-k.select_due c.loop-k.seen c.args.left.steps.now c.loop-k.entries.items _ _
      c.loop-k-test.true (c.in_ok-number.ensures.read ∙ ap Ok w.in-Picks.is) c.loop-k.invariant)
]

pub returns-in_err-number-clause-read : goal.returns-in_err-number-clause-read
returns-in_err-number-clause-read c =
    let p = err_from_is_err_and c.from_residual.result c.from_residual.ensures.1 in
    rw (p.1, p.2)
    (fails_through c.in_err-number.field-0.0 _ _ (stopped c.args.parts.now c.args.line c.args.group c.args.left.at c.loop-k.k c.loop-k.select_due c.loop-k.seen
    c.args.left.steps.now c.loop-k.entries.items _ _ _ c.loop-k-test.true c.loop-k.invariant) c.in_err-number.ensures.read)

pub returns-in_err-number-clause-within : goal.returns-in_err-number-clause-within
returns-in_err-number-clause-within c = IfOk-from_err c.from_residual.result _ c.from_residual.ensures.0

pub returns-in_err-add_entry-in-Calls-clause-read : goal.returns-in_err-add_entry-in-Calls-clause-read
returns-in_err-add_entry-in-Calls-clause-read c =
    let p = err_from_is_err_and c.from_residual-in_err-add_entry-in-Calls.result c.from_residual-in_err-add_entry-in-Calls.ensures.1 in rw (p.1, p.2) tt

pub returns-in_err-add_entry-in-Calls-clause-within : goal.returns-in_err-add_entry-in-Calls-clause-within
returns-in_err-add_entry-in-Calls-clause-within c = IfOk-from_err c.from_residual-in_err-add_entry-in-Calls.result _
    c.from_residual-in_err-add_entry-in-Calls.ensures.0

pub returns-in-Returns-clause-read : goal.returns-in-Returns-clause-read
returns-in-Returns-clause-read c =
    rw (take_rest c.args.left.steps.now (c.loop-k.k + 1))
    (returned c.args.parts.now c.args.line c.args.group c.args.left.at c.loop-k.k c.loop-k.select_due c.loop-k.seen c.args.left.steps.now c.loop-k.entries.items _ _
    c.loop-k-test.true (c.in_ok-number.ensures.read ∙ ap Ok c.in-Returns.is) c.loop-k.invariant)

pub returns-clause-read : goal.returns-clause-read
returns-clause-read c =
    fails_when c.cut_off.result _ (ended c.args.parts.now c.args.line c.args.group c.args.left.at c.loop-k.k c.loop-k.select_due c.loop-k.seen c.args.left.steps.now
    c.loop-k.entries.items _ c.loop-k-test.false c.loop-k.auto.k-end c.loop-k.invariant ∙ ap Err (sym c.cut_off.ensures))
