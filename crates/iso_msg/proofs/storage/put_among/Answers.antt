use Rattle.std.proofs.Common.{◌∙◌, sym, ap, List, arith}
use Rattle.std.proofs.lemmas.List.{map-set, length-map}
use Rattle.iso_msg.specs.declared.field.Field.{Field}
use Rattle.iso_msg.specs.Storage.{pair, pairs, field_index}
use Rattle.iso_msg.proofs.FieldLists.{found, missing, map-insert}
use Rattle.iso_msg.proofs.storage.put_among.Goals as goal

pub index_mut-requires : goal.index_mut-requires
index_mut-requires c =
    let e = sym c.in-Ok.is ∙ c.index_of.ensures ∙ ap (λ (x : List Field). field_index c.args.number (pairs x)) c.deref.ensures.value in
    omega (
      arith,
      (found (pairs c.args.fields.now.items) c.args.number c.args.value.items c.in-Ok.i (sym e)).below,
      length-map c.args.fields.now.items pair,
      c.args.fields.now.ok.0,
    )

pub insert-requires : goal.insert-requires
insert-requires c =
    let e = sym c.in-Err.is ∙ c.index_of.ensures ∙ ap (λ (x : List Field). field_index c.args.number (pairs x)) c.deref.ensures.value in
    omega (
      arith,
      (missing (pairs c.args.fields.now.items) c.args.number c.args.value.items c.in-Err.i (sym e)).below,
      length-map c.args.fields.now.items pair,
      c.args.fields.now.ok.0,
    )

pub returns-in-Ok-clause-ok : goal.returns-in-Ok-clause-ok
returns-in-Ok-clause-ok c =
    let e = sym c.in-Ok.is ∙ c.index_of.ensures ∙ ap (λ (x : List Field). field_index c.args.number (pairs x)) c.deref.ensures.value in
    map-set pair c.args.fields.now.items c.in-Ok.i _ ∙ sym (found (pairs c.args.fields.now.items) c.args.number c.args.value.items c.in-Ok.i (sym e)).put

pub returns-in_ok-insert-in-Err-clause-ok : goal.returns-in_ok-insert-in-Err-clause-ok
returns-in_ok-insert-in-Err-clause-ok c =
    let e = sym c.in-Err.is ∙ c.index_of.ensures ∙ ap (λ (x : List Field). field_index c.args.number (pairs x)) c.deref.ensures.value in
    ap (λ (x : List Field). pairs x) c.in_ok-insert-in-Err.ensures.items ∙ map-insert c.args.fields.now.items c.in-Err.i _
    ∙ sym (missing (pairs c.args.fields.now.items) c.args.number c.args.value.items c.in-Err.i (sym e)).put
