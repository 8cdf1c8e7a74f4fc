use Rattle.std.proofs.Common.{sym, ap, ◌∙◌, arith}
use Rattle.iso_msg.specs.declared.table.FieldForm.{FieldForm}
use Rattle.iso_msg.specs.Values.{has_content}
use Rattle.iso_msg.proofs.FieldTable.{all_bytes}
use Rattle.iso_msg.proofs.value.fits_content.Goals as goal

pub returns-in-Binary : goal.returns-in-Binary
returns-in-Binary c = sym (all_bytes c.args.value.now (λ i. omega (arith, c.type_inv.value i))) ∙ ap (λ (f : FieldForm). has_content f c.args.value.now)
    (sym c.in-Binary.is)
