use Rattle.cli_encode.proofs.LineTexts.{no_type}
use Rattle.cli_encode.proofs.line.read_line.Goals as goal

pub returns-in_err-mti : goal.returns-in_err-mti
returns-in_err-mti c = rw c.from_residual.ensures (no_type c.args.line.now c.in-Some-after-2.digits.now c.in-Some-after-2.ensures c.in_err-mti.ensures)
