use Rattle.std.proofs.Common.{◌∙◌, sym, ap, map, ℕ, List}
use Rattle.std.proofs.lemmas.Simd.{map-map}
use Rattle.iso_msg.specs.declared.field.Field.{Field}
use Rattle.iso_msg.specs.Messages.{PlainMessage, numbers_of}
use Rattle.iso_msg.specs.Storage.{pair}
use Rattle.iso_msg.proofs.message.Message.fields.Goals as goal

pub returns : goal.returns
returns c =
    c.new.ensures ∙ ap (λ (fs : List Field). map (λ (f : Field). f.number) fs) c.deref.ensures.value
    ∙ sym (map-map (λ (p : ℕ × List ℕ). p.0) pair c.self.inside.fields.items)
    ∙ ap (λ (m : PlainMessage). numbers_of m.fields) c.self.view_is
