use Rattle.std.proofs.Common.{◌≡◌, ◌∙◌, ◌++◌, ◌∷◌, [], Some, true, false, is_some, cond, length, sym, ap, subst}
use Rattle.std.specs.Str.{bytes_eq}
use Rattle.std.proofs.lemmas.Map.Text.{btree_map_updates_str}
use Rattle.flow_model.specs.declared.numbering.Part.{Part}
use Rattle.flow_asm.specs.Numbering.{known, number_at}
use Rattle.flow_asm.proofs.NumberMap.{add_known, add_unknown, pushed}
use Rattle.flow_asm.proofs.numbering.number_entry.Goals as goal

pub returns-then-contains_key-clause-parts : goal.returns-then-contains_key-clause-parts
returns-then-contains_key-clause-parts c =
    let here : is_some (number_at c.args.numbers.now c.as_str-name.result.now) ≡ true = rw (← c.contains_key.ensures) c.if-contains_key.true in
    add_known c.args.parts.now.items c.args.entry.now (subst (λ o. is_some o ≡ true)
    (c.requires c.as_str-name.result.now ∙ ap (known c.args.parts.now.items) c.as_str-name.ensures) here)

pub returns-clause-parts : goal.returns-clause-parts
returns-clause-parts c =
    let here : is_some (number_at c.args.numbers.now c.as_str-name.result.now) ≡ false = rw (← c.contains_key.ensures) c.if-contains_key.false in
    c.in_ok-push.ensures.items ∙ ap (λ n. c.args.parts.now.items ++ record { name = n; kind = c.args.entry.now.kind } ∷ []) c.in_ok-kept.ensures
    ∙ add_unknown c.args.parts.now.items c.args.entry.now
    (subst (λ o. is_some o ≡ false) (c.requires c.as_str-name.result.now ∙ ap (known c.args.parts.now.items) c.as_str-name.ensures) here)

pub returns-clause-numbers : goal.returns-clause-numbers
returns-clause-numbers c = λ q.
    let here : is_some (number_at c.args.numbers.now c.as_str-name.result.now) ≡ false = rw (← c.contains_key.ensures) c.if-contains_key.false in
    let hidden : is_some (known c.args.parts.now.items c.args.entry.now.participant) ≡ false =
    subst (λ o. is_some o ≡ false) (c.requires c.as_str-name.result.now ∙ ap (known c.args.parts.now.items) c.as_str-name.ensures) here in
    let part : Part = record { name = c.args.entry.now.participant; kind = c.args.entry.now.kind } in
    btree_map_updates_str c.as_str-name.result.now c.args.numbers.now c.insert.new.self _ c.in_ok-insert.ensures.updates q
    ∙ ap (λ n. cond (bytes_eq n q) (Some c.len.result) (number_at c.args.numbers.now q)) c.as_str-name.ensures
    ∙ ap (λ k. cond (bytes_eq part.name q) (Some k) (number_at c.args.numbers.now q)) (c.len.ensures ∙ c.args.parts.now.ok.0)
    ∙ ap (λ o. cond (bytes_eq part.name q) (Some (length c.args.parts.now.items)) o) (c.requires q)
    ∙ pushed c.args.parts.now.items part q hidden
    ∙ sym (ap (λ ps. known ps q) (c.in_ok-push.ensures.items ∙ ap (λ n. c.args.parts.now.items ++ record { name = n; kind = c.args.entry.now.kind } ∷ [])
    c.in_ok-kept.ensures))
