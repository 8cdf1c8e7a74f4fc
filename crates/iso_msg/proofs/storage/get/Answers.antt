use Rattle.std.proofs.Common.{◌∙◌, sym, ap, Some, arith}
use Rattle.std.proofs.lemmas.List.{length-map}
use Rattle.iso_msg.specs.Storage.{pair, pairs}
use Rattle.iso_msg.proofs.FieldLists.{removes_at, missing_value}
use Rattle.iso_msg.proofs.FieldSearch.{value_fits, value_found}
use Rattle.iso_msg.proofs.storage.get.Goals as goal

pub bounds-fields-i : goal.bounds-fields-i
bounds-fields-i c = omega (
  arith,
  (removes_at (pairs c.args.fields.now) c.args.number c.in-Ok.i (sym c.index_of.ensures ∙ c.in-Ok.is)).below,
  length-map c.args.fields.now pair,
)

pub offset_bounds-fields-i : goal.offset_bounds-fields-i
offset_bounds-fields-i c = omega (arith, bounds-fields-i c)

pub returns-in-Ok-clause-value : goal.returns-in-Ok-clause-value
returns-in-Ok-clause-value c = ap Some c.deref.ensures.value ∙ value_found c.args.fields.now c.args.number c.in-Ok.i c.index-fields-i.result
    (sym c.index_of.ensures ∙ c.in-Ok.is)

pub returns-in-Ok-clause-fits : goal.returns-in-Ok-clause-fits
returns-in-Ok-clause-fits c = value_fits 1 c.args.number c.deref.result.now (pairs c.args.fields.now) c.requires
    (sym (ap Some c.deref.ensures.value ∙ value_found c.args.fields.now c.args.number c.in-Ok.i c.index-fields-i.result (sym c.index_of.ensures ∙ c.in-Ok.is)))

pub returns-in-Err-clause-value : goal.returns-in-Err-clause-value
returns-in-Err-clause-value c =
    sym (missing_value 1 (pairs c.args.fields.now) c.args.number c.in-Err.field-0 c.requires (sym c.index_of.ensures ∙ c.in-Err.is)).0
