use Rattle.std.proofs.lemmas.Result.{err_from_is_err_and}
use Rattle.tx_engine.proofs.Unknown.{doing_told, member_told}
use Rattle.tx_engine.proofs.engine.opening.check_row.Goals as goal

pub returns-in_err-check_names : goal.returns-in_err-check_names
returns-in_err-check_names c =
    let p = err_from_is_err_and c.from_residual.result c.from_residual.ensures.1 in
    rw (p.1, p.2) (member_told c.args.code.now c.args.id c.args.row.now c.args.row.now.doing _ (rw c.as_slice.ensures at (c.in_err-check_names.ensures)))

pub returns-in-Some : goal.returns-in-Some
returns-in-Some c =
    rw c.in-Some.is (rw (doing_told c.args.code.now c.args.id c.args.row.now c.in-Some.name (rw c.as_slice.ensures at (c.in_ok-check_names.ensures)))
    c.check_name.ensures)
