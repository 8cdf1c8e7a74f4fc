use Rattle.std.proofs.Common.{◌≡◌, ◌∙◌, sym, ap, Some, Result, ℕ, List, get_or, length, ◌<◌, arith}
use Rattle.std.proofs.lemmas.List.{get_or-map, length-map}
use Rattle.iso_msg.specs.declared.field.Field.{Field}
use Rattle.iso_msg.specs.Storage.{pair, pairs, field_index}
use Rattle.iso_msg.proofs.FieldLists.{removes_at, missing_value, map-remove}
use Rattle.iso_msg.proofs.storage.take.Goals as goal

-- the index that was found in the slice is that in the fields
index_is : (n : ℕ) (fs slice : List Field) (r s : Result ℕ ℕ) → slice ≡ fs → r ≡ field_index n (pairs slice) → r ≡ s → field_index n (pairs fs) ≡ s
index_is n fs slice r s e f g = ap (λ (x : List Field). field_index n (pairs x)) (sym e) ∙ sym f ∙ g

pub remove-field-requires : goal.remove-field-requires
remove-field-requires c = omega (
  arith,
  (removes_at (pairs c.args.fields.now.items) c.args.number c.in-Ok.i
      (index_is c.args.number c.args.fields.now.items _ _ _ c.deref.ensures.value c.index_of.ensures c.in-Ok.is)).below,
  length-map c.args.fields.now.items pair,
  c.args.fields.now.ok.0,
)

pub returns-in-Ok-clause-value : goal.returns-in-Ok-clause-value
returns-in-Ok-clause-value c =
    let fs = c.args.fields.now.items in
    let s = removes_at (pairs fs) c.args.number c.in-Ok.i (index_is c.args.number c.args.fields.now.items _ _ _ c.deref.ensures.value c.index_of.ensures
    c.in-Ok.is) in
    let within : c.in-Ok.i < length fs = omega (arith, s.below, length-map fs pair) in
    let e : get_or (pairs fs) c.in-Ok.i (pair c.remove-field.result) ≡ pair c.remove-field.result =
    get_or-map pair fs c.in-Ok.i c.remove-field.result _ within ∙ ap pair (sym c.remove-field.ensures.value) in
    ap (λ (p : ℕ × List ℕ). Some p.1) (sym e) ∙ sym (s.value (pair c.remove-field.result))

pub returns-in-Ok-clause-others : goal.returns-in-Ok-clause-others
returns-in-Ok-clause-others c =
    let fs = c.args.fields.now.items in
    ap (λ (x : List Field). pairs x) c.remove-field.ensures.items ∙ map-remove fs c.in-Ok.i
    ∙ sym (removes_at (pairs fs) c.args.number c.in-Ok.i (index_is c.args.number c.args.fields.now.items _ _ _ c.deref.ensures.value c.index_of.ensures
    c.in-Ok.is)).others

pub returns-in-Err-clause-value : goal.returns-in-Err-clause-value
returns-in-Err-clause-value c = sym (missing_value 1 (pairs c.args.fields.now.items) c.args.number c.in-Err.field-0 c.requires
    (index_is c.args.number c.args.fields.now.items _ _ _ c.deref.ensures.value c.index_of.ensures c.in-Err.is)).0

pub returns-in-Err-clause-others : goal.returns-in-Err-clause-others
returns-in-Err-clause-others c = sym (missing_value 1 (pairs c.args.fields.now.items) c.args.number c.in-Err.field-0 c.requires
    (index_is c.args.number c.args.fields.now.items _ _ _ c.deref.ensures.value c.index_of.ensures c.in-Err.is)).1
