use Rattle.iso_msg.specs.Storage.{pairs}
use Rattle.iso_msg.proofs.FieldLists.{fewer_fields}
use Rattle.iso_msg.proofs.message.Message.remove.Goals as goal

pub invariant_of-self : goal.invariant_of-self
invariant_of-self c = (c.self.invariant.0, rw c.take.ensures.others (fewer_fields 1 (pairs c.self.inside.fields.items) c.args.number c.self.invariant.1))
