use Rattle.std.proofs.Common.{ℕ, List, ◌<◌, sym, ◌∙◌, subst, arith}
use Rattle.sw_context.specs.Pairs.{Pairs, AreEntries}
use Rattle.sw_context.proofs.SpellingLaws.{first-entry, named-first, named-later, spells-none}
use Rattle.sw_context.proofs.context.reading.+has_name.Goals as goal

pub returns-then-eq : goal.returns-then-eq
returns-then-eq t c = λ es are l h.
    let e : List ℕ × List ℕ = (c.in-Some.front.name.now, c.in-Some.front.value.now) in
    let some : 0 < c.args.count = omega arith in
    let first = first-entry e c.in-Some.front.rest.now c.args.count es some l (sym c.in-Some.ensures.found.1 ∙ h) in
    c.if-eq.true ∙ sym (named-first c.args.name.now e es first.0 first.1 (sym c.eq.ensures ∙ c.if-eq.true))

pub returns-else-eq : goal.returns-else-eq
returns-else-eq t c = λ es are l h.
    let e : List ℕ × List ℕ = (c.in-Some.front.name.now, c.in-Some.front.value.now) in
    let some : 0 < c.args.count = omega arith in
    let first = first-entry e c.in-Some.front.rest.now c.args.count es some l (sym c.in-Some.ensures.found.1 ∙ h) in
    let later = named-later c.args.name.now e es first.0 first.1 (sym c.eq.ensures ∙ c.if-eq.false) in
    c.has_name.ensures first.0 (subst (λ (z : Pairs). AreEntries z) first.1 are).2 (omega (arith, first.2)) first.3 ∙ sym later

pub returns-in-None : goal.returns-in-None
returns-in-None t c = λ es are l h. let some : 0 < c.args.count = omega arith in
    absurd (spells-none c.args.bytes.now c.args.count some c.in-None.ensures.none es are l h)
