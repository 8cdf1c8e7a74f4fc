use Rattle.cli_encode.proofs.LineTexts.{no_number, no_value}
use Rattle.cli_encode.proofs.line.read_field.Goals as goal

pub returns-in_err-number : goal.returns-in_err-number
returns-in_err-number c = rw c.from_residual-in_err-number.ensures
    (no_number c.args.line.now c.in_ok-word.word.now c.in_ok-word.text.now c.in_ok-word.ensures.0 c.in_ok-word.ensures.1 c.in_err-number.ensures)

pub returns-in_err-value : goal.returns-in_err-value
returns-in_err-value c = rw c.from_residual-in_err-value.ensures
    (no_value c.args.line.now c.in_ok-word.word.now c.in_ok-word.text.now c.in_ok-word.ensures.0 c.in_ok-word.ensures.1
    c.in_ok-number.number c.in_ok-number.ensures.1 c.in_ok-number.ensures.0 c.in_err-value.ensures)
