use Rattle.std.proofs.lemmas.Result.{err_from_is_err_and}
use Rattle.cardswitch.proofs.Drawing.{no_flow, unwritten}
use Rattle.cardswitch.proofs.program.graph.Goals as goal

pub returns-in_err-flow-clause-failed : goal.returns-in_err-flow-clause-failed
returns-in_err-flow-clause-failed g c =
    let error = err_from_is_err_and c.from_residual.result c.from_residual.ensures.1 in
    rw (error.1, error.2) (no_flow c.args.form c.args.path.now _ c.in_err-flow.field-0.0 c.in_err-flow.ensures.failed)

pub returns-in_err-draw-clause-failed : goal.returns-in_err-draw-clause-failed
returns-in_err-draw-clause-failed g c =
    let error = err_from_is_err_and c.from_residual-in_err-draw.result c.from_residual-in_err-draw.ensures.1 in
    rw (error.1, error.2) (unwritten c.args.form c.args.path.now _ _ c.in_ok-flow.flow c.in_err-draw.field-0.0 c.in_err-draw.ensures.writing
    c.in_ok-flow.ensures.checked c.draw.ensures.beginning)
