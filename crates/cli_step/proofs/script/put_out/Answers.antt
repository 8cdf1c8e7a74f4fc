use Rattle.std.proofs.Common.{inl, inr}
use Rattle.std.proofs.lemmas.Result.{err_from_is_err_and}
use Rattle.cli_step.proofs.Writing.{counted}
use Rattle.cli_step.proofs.script.put_out.Goals as goal

pub returns-in_err-write_whole-clause-refused : goal.returns-in_err-write_whole-clause-refused
returns-in_err-write_whole-clause-refused g c =
    let error = err_from_is_err_and c.from_residual.result c.from_residual.ensures.1 in
    let beginning = rw c.as_bytes.ensures.value at c.write_whole.ensures.beginning in
    rw (error.1, error.2) (counted _ _ c.args.text.now beginning, inl c.in_err-write_whole.ensures.writing)

pub returns-in-Err-clause-refused : goal.returns-in-Err-clause-refused
returns-in-Err-clause-refused g c =
    let beginning = rw c.as_bytes.ensures.value at c.write_whole.ensures.beginning in
    let written = rw c.as_bytes.ensures.value at c.in_ok-write_whole.ensures.written in
    (counted _ _ c.args.text.now beginning, inr (written, (c.in-Err.error, c.in-Err.is, c.at_line.ensures)))
