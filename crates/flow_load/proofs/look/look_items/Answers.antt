use Rattle.std.proofs.lemmas.Result.{err_from_is_err_and}
use Rattle.flow_load.specs.LookOver.{items_over}
use Rattle.flow_load.proofs.LookLoop.{goes_over, stops_over, is_over}
use Rattle.flow_load.proofs.look.look_items.Goals as goal

pub loop-k-preserved : goal.loop-k-preserved
loop-k-preserved g c =
    rw (c.or-recovering.ensures, c.then_some.ensures) (goes_over g.T.Line.form g.T.Line.recovers c.loop-k.recovering c.args.count c.loop-k.k c.args.at
    c.loop-k.rest.now c.in_ok-recovers.recovers c.in_ok-recovers.after.now _ c.loop-k-test.true c.in_ok-recovers.ensures c.loop-k.invariant)

pub returns-in_err-recovers : goal.returns-in_err-recovers
returns-in_err-recovers g c =
    let p = err_from_is_err_and c.from_residual.result c.from_residual.ensures.1 in
    rw (p.1, p.2) (stops_over g.T.Line.form g.T.Line.recovers c.in_err-recovers.field-0.0 c.loop-k.recovering c.args.count c.loop-k.k c.args.at
    c.loop-k.rest.now (items_over g.T.Line.form g.T.Line.recovers c.args.count c.args.at c.args.bytes.now) c.loop-k-test.true c.in_err-recovers.ensures
    c.loop-k.invariant)

pub returns : goal.returns
returns g c = is_over g.T.Line.form g.T.Line.recovers c.loop-k.recovering c.args.count c.loop-k.k c.args.at c.loop-k.rest.now _ c.loop-k-test.false
    c.loop-k.invariant
