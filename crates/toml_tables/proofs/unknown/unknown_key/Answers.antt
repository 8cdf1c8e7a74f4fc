use Rattle.std.proofs.Common.{◌≡◌, ◌∙◌, List, ◌∷◌, [], true, false, not, ap, sym, subst, arith, Global, string_bytes}
use Rattle.std.specs.String.{string_cmp}
use Rattle.std.specs.List.Sorted.{IsStrictlySortedBy}
use Rattle.std.specs.Map.{keys_of}
use Rattle.std.proofs.lemmas.Grind.{common_steps}
use Rattle.toml.specs.View.{members_view}
use Rattle.toml.proofs.Views.{Entry}
use Rattle.toml_tables.specs.Unknown.{is_known, unknown_key}
use Rattle.toml_tables.proofs.LeastKey.{least_first, least_later, sorted_rest}
use Rattle.toml_tables.proofs.unknown.unknown_key.Goals as goal

pub loop-name-init : goal.loop-name-init
loop-name-init g c =
    let all : c.into_iter-name-iterator.result ≡ c.args.table.now.entries = grind (arith, common_steps) in (
      tt,
      tt,
      ap (λ (es : List Entry). unknown_key g.K.AsStr.text c.args.keys.now (members_view es)) all,
      subst (λ (es : List Entry). IsStrictlySortedBy (string_cmp {Z = Global}) (keys_of es)) (sym all) c.iter-name-items.ensures.ordered,
    )

pub returns-then-not-is_known : goal.returns-then-not-is_known
returns-then-not-is_known g c =
    let (can, finite, same, sorted) = c.loop-name.invariant in
    let e : Entry = (c.in-Some.name.now, c.in-Some._value.now) in
    let left : c.loop-name.name-iterator ≡ e ∷ c.next.new.self = grind (arith, common_steps) in
    let unknown : is_known g.K.AsStr.text c.args.keys.now (string_bytes e.0) ≡ false =
    sym (c.is_known.ensures ∙ ap (is_known g.K.AsStr.text c.args.keys.now) c.as_str.ensures.value) ∙ c.if-not-is_known.true in
    let ordered = subst (λ (es : List Entry). IsStrictlySortedBy (string_cmp {Z = Global}) (keys_of es)) left sorted in
    sym (least_first (λ name. not (is_known g.K.AsStr.text c.args.keys.now name)) e c.next.new.self ordered (ap not unknown))
    ∙ ap (λ (es : List Entry). unknown_key g.K.AsStr.text c.args.keys.now (members_view es)) (sym left) ∙ same

pub loop-name-preserved : goal.loop-name-preserved
loop-name-preserved g c =
    let (can, finite, same, sorted) = c.loop-name.invariant in
    let e : Entry = (c.in-Some.name.now, c.in-Some._value.now) in
    let left : c.loop-name.name-iterator ≡ e ∷ c.next.new.self = grind (arith, common_steps) in
    let known : is_known g.K.AsStr.text c.args.keys.now (string_bytes e.0) ≡ true =
    sym (c.is_known.ensures ∙ ap (is_known g.K.AsStr.text c.args.keys.now) c.as_str.ensures.value) ∙ c.if-not-is_known.false in
    let ordered = subst (λ (es : List Entry). IsStrictlySortedBy (string_cmp {Z = Global}) (keys_of es)) left sorted in
    let on = least_later (λ name. not (is_known g.K.AsStr.text c.args.keys.now name)) e c.next.new.self (ap not known) in
    let rest = sym on ∙ ap (λ (es : List Entry). unknown_key g.K.AsStr.text c.args.keys.now (members_view es)) (sym left) ∙ same in
    (tt, tt, rest, sorted_rest e c.next.new.self ordered)

pub returns : goal.returns
returns g c =
    let (can, finite, same, sorted) = c.loop-name.invariant in
    let none : c.loop-name.name-iterator ≡ [] = grind (arith, common_steps) in
    ap (λ (es : List Entry). unknown_key g.K.AsStr.text c.args.keys.now (members_view es)) (sym none) ∙ same
