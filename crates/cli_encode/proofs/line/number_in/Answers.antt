use Rattle.std.proofs.Common.{sym, ◌∙◌}
use Rattle.cli_encode.proofs.Numbers.{not_same, spelled_otherwise, too_big, too_long, unread}
use Rattle.cli_encode.proofs.line.number_in.Goals as goal

pub returns-then-word-gt3 : goal.returns-then-word-gt3
returns-then-word-gt3 c = too_long c.args.word.now c.if-word-gt3.true

pub returns-in_err-number : goal.returns-in_err-number
returns-in_err-number c = rw c.from_residual.ensures (unread c.args.word.now (sym c.in_err-number.ensures.value))

pub returns-then-number-gt255 : goal.returns-then-number-gt255
returns-then-number-gt255 c = too_big c.args.word.now c.in_ok-number.number (sym c.in_ok-number.ensures.value) c.if-number-gt255.true

pub returns-else-eq : goal.returns-else-eq
returns-else-eq c = spelled_otherwise c.args.word.now c.in_ok-number.number (sym c.in_ok-number.ensures.value)
    (λ e. not_same c.as_bytes.result.now c.format.result.now c.args.word.now c.eq.result c.if-eq.false c.eq.ensures c.as_bytes.ensures.value
    (c.format.ensures.text ∙ e))
