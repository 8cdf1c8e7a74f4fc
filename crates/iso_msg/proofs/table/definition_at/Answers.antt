use Rattle.std.proofs.Common.{◌∙◌, ap, get_or, None, sym, zero-add}
use Rattle.iso_msg.specs.Table.{definition_of}
use Rattle.iso_msg.proofs.FieldTable.{definitions_at, none_past}
use Rattle.iso_msg.proofs.table.definition_at.Goals as goal

pub returns-then-number-lt129 : goal.returns-then-number-lt129
returns-then-number-lt129 c = c.row.ensures ∙ ap (λ t. get_or t c.args.number None) c.is_table.ensures ∙ definitions_at 129 0 c.args.number
    c.if-number-lt129.true ∙ ap definition_of (zero-add c.args.number)

pub returns-else-number-lt129 : goal.returns-else-number-lt129
returns-else-number-lt129 c = sym (none_past c.args.number c.if-number-lt129.false)
