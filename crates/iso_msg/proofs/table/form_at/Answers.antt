use Rattle.std.proofs.Common.{◌≡◌, ◌∙◌, sym, subst, None, Some}
use Rattle.iso_msg.specs.Table.{form_of, IsKnown}
use Rattle.iso_msg.proofs.FieldTable.{form_by, is_known}
use Rattle.iso_msg.proofs.table.form_at.Goals as goal

pub returns-in-Some-clause-form : goal.returns-in-Some-clause-form
returns-in-Some-clause-form c = form_by c.args.number (Some c.in-Some.definition) (sym c.in-Some.is ∙ c.definition_at.ensures)

pub returns-in-Some-clause-known : goal.returns-in-Some-clause-known
returns-in-Some-clause-known c =
    let e : Some c.in-Some.definition.form ≡ form_of c.args.number =
    form_by c.args.number (Some c.in-Some.definition) (sym c.in-Some.is ∙ c.definition_at.ensures) in
    subst (λ o. IsKnown c.args.number o) (sym e) (is_known c.args.number)

pub returns-in-None-clause-form : goal.returns-in-None-clause-form
returns-in-None-clause-form c = form_by c.args.number None (sym c.in-None.is ∙ c.definition_at.ensures)
