-- Each group by the lemma for how it is read: a search through all facts takes long.
use Rattle.std.proofs.Common.{arith}
use Rattle.std.proofs.lemmas.Result.{err_from_is_err_and}
use Rattle.flow_load.proofs.GroupsWalk.{added, ended, misplaced, stopped}
use Rattle.flow_load.proofs.ItemLoop.{fails_through}
use Rattle.flow_load.proofs.groups.read_groups.Goals as goal

pub loop-number-preserved : goal.loop-number-preserved
loop-number-preserved c = record {
  within = omega (arith, c.in_ok-walked.ensures.within, c.loop-number.invariant.within);
  read = rw (c.in_ok-push.ensures.items, c.in_ok-name.ensures, c.new.ensures)
      (added c.args.parts.now c.args.line c.loop-number.number c.loop-number.left.at c.loop-number.left.seen c.loop-number.left.steps.now c.args.starts.now
      c.loop-number.groups.items _ c.index-starts-number.result _ c.loop-number-test.true c.index-starts-number.is c.if-start-left.false
      c.in_ok-walked.ensures.read c.loop-number.invariant.read);
}

pub returns-then-start-left-clause-read : goal.returns-then-start-left-clause-read
returns-then-start-left-clause-read c =
    misplaced c.args.parts.now c.args.line c.loop-number.number c.loop-number.left.at c.loop-number.left.seen c.loop-number.left.steps.now c.args.starts.now
    c.loop-number.groups.items _ c.index-starts-number.result c.loop-number-test.true c.index-starts-number.is c.if-start-left.true
    c.loop-number.invariant.read

pub returns-in_err-walked-clause-read : goal.returns-in_err-walked-clause-read
returns-in_err-walked-clause-read c =
    let p = err_from_is_err_and c.from_residual.result c.from_residual.ensures.1 in
    rw (p.1, p.2)
    (fails_through c.in_err-walked.field-0.0 _ _ (stopped c.args.parts.now c.args.line c.loop-number.number c.loop-number.left.at c.loop-number.left.seen
    c.loop-number.left.steps.now c.args.starts.now c.loop-number.groups.items _ c.index-starts-number.result _ c.loop-number-test.true
    c.index-starts-number.is c.if-start-left.false c.loop-number.invariant.read) c.in_err-walked.ensures.read)

pub returns-clause-read : goal.returns-clause-read
returns-clause-read c =
    ended c.args.parts.now c.args.line c.loop-number.number c.loop-number.left.at c.loop-number.left.seen c.loop-number.left.steps.now c.args.starts.now
    c.loop-number.groups.items _ c.loop-number-test.false c.loop-number.invariant.read
