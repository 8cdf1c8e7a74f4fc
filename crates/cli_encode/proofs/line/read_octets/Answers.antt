use Rattle.std.proofs.Common.{sym, ◌∙◌}
use Rattle.cli_encode.proofs.Octets.{lower_case, no_octets, not_sixteen, octets_read}
use Rattle.cli_encode.proofs.line.read_octets.Goals as goal

pub returns-then-text-ne16 : goal.returns-then-text-ne16
returns-then-text-ne16 c = not_sixteen c.args.text.now c.if-text-ne16.true

pub returns-then-has_lower : goal.returns-then-has_lower
returns-then-has_lower c = lower_case c.args.text.now (sym c.has_lower.ensures ∙ c.if-has_lower.true)

pub returns-in-Ok : goal.returns-in-Ok
returns-in-Ok c = octets_read c.args.number c.args.text.now c.in-Ok.parts.0 c.in-Ok.parts.1.now c.if-text-ne16.false
    (sym c.has_lower.ensures ∙ c.if-has_lower.false) c.in-Ok.ensures

pub returns-in-Err : goal.returns-in-Err
returns-in-Err c = no_octets c.args.number c.args.text.now c.in-Err.field-0 c.if-text-ne16.false c.in-Err.ensures
