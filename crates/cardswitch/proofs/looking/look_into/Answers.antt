use Rattle.std.proofs.lemmas.Result.{err_from_is_err_and}
use Rattle.cardswitch.proofs.Showing.{beside, not_found, unwritten, whole}
use Rattle.cardswitch.proofs.looking.look_into.Goals as goal

pub returns-in_err-sight-clause-failed : goal.returns-in_err-sight-clause-failed
returns-in_err-sight-clause-failed g c =
    let error = err_from_is_err_and c.from_residual-in_err-sight.result c.from_residual-in_err-sight.ensures.1 in
    rw (error.1, error.2) (not_found c.args.options.now _ c.in_err-sight.field-0.0 c.in_err-sight.ensures.failed)

pub returns-in_err-print-clause-failed : goal.returns-in_err-print-clause-failed
returns-in_err-print-clause-failed g c =
    let error = err_from_is_err_and c.from_residual-in_err-print.result c.from_residual-in_err-print.ensures.1 in
    rw (error.1, error.2) (unwritten c.args.options.now _ _ c.in_ok-sight.sight c.in_err-print.field-0.0 c.in_err-print.ensures.writing
    c.in_ok-sight.ensures.sight c.print.ensures.beginning)

pub returns-in-Beside-clause-failed : goal.returns-in-Beside-clause-failed
returns-in-Beside-clause-failed g c =
    rw c.bad_row.ensures (beside c.args.options.now c.in_ok-path.path _ _ c.in_ok-sight.sight c.in-Beside.bad c.in-Beside.rest
    c.in_ok-path.ensures c.in-Beside.is
    c.in_ok-sight.ensures.sight c.in_ok-print.ensures.written)
