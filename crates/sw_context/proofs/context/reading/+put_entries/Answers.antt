use Rattle.std.proofs.Common.{◌≡◌, ℕ, List, ◌<◌, ◌++◌, ◌∷◌, [], sym, ap, subst, ◌∙◌, append_assoc, arith}
use Rattle.std.proofs.lemmas.Result.{MatchResult-weaker, err_from_is_err_and}
use Rattle.sw_context.specs.Pairs.{Pairs, IsContext}
use Rattle.sw_context.specs.declared.error.ContextError.TheVariants.{OutOfMemory}
use Rattle.sw_context.proofs.PairLaws.{put-next, wants-memory, AreEntries-after}
use Rattle.sw_context.proofs.SpellingLaws.{first-entry, spells-none}
use Rattle.sw_context.proofs.context.reading.+put_entries.Goals as goal

pub returns-in_ok-put-in-Some : goal.returns-in_ok-put-in-Some
returns-in_ok-put-in-Some t c = λ es is l h.
    let e : List ℕ × List ℕ = (c.in-Some.front.name.now, c.in-Some.front.value.now) in
    let old = c.args.context.now in
    let some : 0 < c.args.count = omega arith in
    let first = first-entry e c.in-Some.front.rest.now c.args.count es some l (sym c.in-Some.ensures.found.1 ∙ h) in
    let whole : IsContext (old ++ e ∷ first.0) = subst (λ (z : Pairs). IsContext (old ++ z)) first.1 is in
    let put = c.in_ok-put-in-Some.ensures.put ∙ (put-next old e first.0 whole).1 in
    let joined : c.put.new.self ++ first.0 ≡ old ++ es =
    ap (λ (z : Pairs). z ++ first.0) put ∙ append_assoc old (e ∷ []) first.0 ∙ ap (λ (z : Pairs). old ++ z) (sym first.1) in
    MatchResult-weaker c.put_entries.result {P = λ _. c.put_entries.new.context ≡ c.put.new.self ++ first.0} {P' =
    λ _. c.put_entries.new.context ≡ old ++ es} {Q = λ e. e ≡ OutOfMemory} {Q' = λ e. e ≡ OutOfMemory}
    (c.put_entries.ensures first.0 (subst (λ (z : Pairs). IsContext z) (sym joined) is) (omega (arith, first.2)) first.3)
    (λ _ done. done ∙ joined) (λ _ failed. failed)

pub returns-in-None : goal.returns-in-None
returns-in-None t c = λ es is l h.
    let some : 0 < c.args.count = omega arith in
    absurd (spells-none c.args.bytes.now c.args.count some c.in-None.ensures.none es (AreEntries-after c.args.context.now es is.1) l h)

pub returns-in_err-put-in-Some : goal.returns-in_err-put-in-Some
returns-in_err-put-in-Some t c = λ es is l h.
    let e : List ℕ × List ℕ = (c.in-Some.front.name.now, c.in-Some.front.value.now) in
    let old = c.args.context.now in
    let some : 0 < c.args.count = omega arith in
    let first = first-entry e c.in-Some.front.rest.now c.args.count es some l (sym c.in-Some.ensures.found.1 ∙ h) in
    let whole : IsContext (old ++ e ∷ first.0) = subst (λ (z : Pairs). IsContext (old ++ z)) first.1 is in
    let p = err_from_is_err_and c.from_residual.result c.from_residual.ensures.1 in
    rw p.1 (p.2 ∙ wants-memory c.in_err-put-in-Some.field-0.0 _ c.in_err-put-in-Some.ensures.refused (put-next old e first.0 whole).0)
