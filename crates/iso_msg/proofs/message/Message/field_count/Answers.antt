use Rattle.std.proofs.Common.{arith}
use Rattle.std.proofs.lemmas.List.{length-map}
use Rattle.iso_msg.specs.Storage.{pair, pairs}
use Rattle.iso_msg.proofs.FieldLists.{few_fields}
use Rattle.iso_msg.proofs.message.Message.field_count.Goals as goal

pub returns-clause-small : goal.returns-clause-small
returns-clause-small c = omega (
  arith,
  c.len.ensures,
  few_fields 1 (pairs c.self.inside.fields.items) (omega arith) c.self.invariant.1,
  length-map c.self.inside.fields.items pair,
  c.self.inside.fields.ok.0,
)
