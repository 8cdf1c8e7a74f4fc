use Rattle.std.proofs.Common.{◌≡◌, ◌<◌, sym, ap, subst, ℕ, List, length, None, arith}
use Rattle.std.proofs.lemmas.List.{length-map}
use Rattle.iso_msg.specs.Messages.{PlainMessage}
use Rattle.iso_msg.specs.Values.{refusal}
use Rattle.iso_msg.specs.Storage.{pair}
use Rattle.iso_msg.proofs.FieldLists.{field_valid}
use Rattle.iso_msg.proofs.message.Message.field_at.Goals as goal

pub returns-clause-valid : goal.returns-clause-valid
returns-clause-valid c =
    let fs = c.self.inside.fields.items in
    let within : c.args.index < length fs = omega (arith, c.requires, ap (λ (m : PlainMessage). length m.fields) c.self.view_is, length-map fs pair) in
    subst (λ (v : List ℕ). refusal c.index-field.result.now.number v ≡ None) (sym c.deref.ensures.value)
    (field_valid 1 c.args.index fs c.index-field.result.now c.self.invariant.1 within c.index-field.ensures)
