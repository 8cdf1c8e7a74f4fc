use Rattle.std.proofs.Common.{sym}
use Rattle.std.proofs.lemmas.Bool.{ltb-true}
use Rattle.iso_msg.proofs.FieldSearch.{above_last}
use Rattle.iso_msg.proofs.storage.is_above.Goals as goal

pub returns-in-Some : goal.returns-in-Some
returns-in-Some c less = above_last c.args.fields.now c.args.number c.in-Some.field.now c.requires (sym c.in-Some.ensures.value) (ltb-true _ _ less)
