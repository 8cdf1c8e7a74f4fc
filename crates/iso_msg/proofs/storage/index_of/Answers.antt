use Rattle.std.proofs.Common.{rules}
use Rattle.std.proofs.lemmas.List.Sorted.{answers_always}
use Rattle.iso_msg.specs.declared.field.Field.{Field}
use Rattle.iso_msg.proofs.FieldSearch.{searched}
use Rattle.iso_msg.proofs.storage.index_of.Goals as goal

-- the closure gives a field's number
pub returns : goal.returns
returns c =
    let facts = c.binary_search_by_key.ensures in
    searched c.args.fields.now c.args.number c.requires c.binary_search_by_key.result facts.bound
    (facts.position (λ (f : Field). f.number) (answers_always _ _ _ (λ f a r g called. search rules)))
