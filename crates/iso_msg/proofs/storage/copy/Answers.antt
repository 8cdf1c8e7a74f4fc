use Rattle.std.proofs.Common.{◌∙◌, ap, refl}
use Rattle.std.proofs.lemmas.List.{take_all}
use Rattle.iso_msg.specs.Storage.{pairs}
use Rattle.iso_msg.proofs.FieldLists.{copied}
use Rattle.iso_msg.proofs.storage.copy.Goals as goal

pub loop-field-preserved : goal.loop-field-preserved
loop-field-preserved c = ap pairs c.in_ok-push.ensures.items ∙ copied c.args.fields.now c.loop-field.all.items c.loop-field.field-index c.field-item.result
    _ c.loop-field-test.true c.field-item.is c.loop-field.invariant (c.in_ok-value.ensures.items ∙ c.deref.ensures.value) refl

pub returns : goal.returns
returns c = c.loop-field.invariant ∙ ap pairs (take_all c.loop-field.field-index c.args.fields.now c.loop-field-test.false)
