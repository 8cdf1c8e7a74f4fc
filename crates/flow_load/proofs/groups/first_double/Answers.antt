use Rattle.std.proofs.Common.{◌≡◌, ◌∙◌, Some, true, false, is_some, cond, sym, ap, take, subst}
use Rattle.std.specs.Str.{bytes_eq}
use Rattle.std.proofs.lemmas.Map.Text.{btree_map_updates_str}
use Rattle.flow_asm.specs.Numbering.{known, number_at}
use Rattle.flow_load.proofs.Doubles.{double_here, double_later, known_more}
use Rattle.flow_load.proofs.groups.first_double.Goals as goal

pub returns-then-contains_key-clause-read : goal.returns-then-contains_key-clause-read
returns-then-contains_key-clause-read c =
    let here : is_some (number_at c.loop-number.seen c.as_str-name.result.now) ≡ true = rw (← c.contains_key.ensures) c.if-contains_key.true in
    let known_here = subst (λ o. is_some o ≡ true) (c.loop-number.invariant.seen c.as_str-name.result.now
    ∙ ap (known (take c.loop-number.number c.args.parts.now)) c.as_str-name.ensures) here in
    sym (double_here c.args.parts.now c.loop-number.number c.index-parts-number.result c.loop-number-test.true c.index-parts-number.is known_here)
    ∙ c.loop-number.invariant.rest

pub loop-number-preserved : goal.loop-number-preserved
loop-number-preserved c =
    let here : is_some (number_at c.loop-number.seen c.as_str-name.result.now) ≡ false = rw (← c.contains_key.ensures) c.if-contains_key.false in
    let hidden = subst (λ o. is_some o ≡ false) (c.loop-number.invariant.seen c.as_str-name.result.now
    ∙ ap (known (take c.loop-number.number c.args.parts.now)) c.as_str-name.ensures) here in
    record {
      seen = λ q.
          btree_map_updates_str c.as_str-name.result.now c.loop-number.seen c.insert.new.self _ c.in_ok-insert.ensures.updates q
          ∙ ap (λ n. cond (bytes_eq n q) (Some c.loop-number.number) (number_at c.loop-number.seen q)) c.as_str-name.ensures
          ∙ ap (λ o. cond (bytes_eq c.index-parts-number.result.name q) (Some c.loop-number.number) o) (c.loop-number.invariant.seen q)
          ∙ known_more c.args.parts.now c.loop-number.number c.index-parts-number.result q c.loop-number-test.true c.index-parts-number.is hidden;
      rest = sym (double_later c.args.parts.now c.loop-number.number c.index-parts-number.result c.loop-number-test.true c.index-parts-number.is hidden)
          ∙ c.loop-number.invariant.rest;
    }
