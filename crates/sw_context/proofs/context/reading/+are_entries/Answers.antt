use Rattle.std.proofs.Common.{◌≡◌, ℕ, List, ◌<◌, Bool, true, false, not, is_some, refl, sym, ap, ◌∙◌, arith}
use Rattle.sw_context.proofs.SpellingLaws.{spells-first, spells-after, spells-none}
use Rattle.sw_context.proofs.context.reading.+are_entries.Goals as goal

was_false : (b : Bool) → not b ≡ true → b ≡ false
was_false true h = absurd cc
was_false false h = refl

no_both : (b : Bool) → b ≡ true → b ≡ false → ⊥
no_both b h k = cc

pub returns-then-are_entries : goal.returns-then-are_entries
returns-then-are_entries t c =
    let e : List ℕ × List ℕ = (c.in-Some.front.name.now, c.in-Some.front.value.now) in
    let rest = c.in-Some.front.rest.now in
    let some : 0 < c.args.count = omega arith in
    let found = c.in-Some.ensures.found in (
      λ h. spells-first e rest c.args.bytes.now c.args.count some found.0 found.1 (c.are_entries.ensures.0 c.if-are_entries.true)
          (λ es are l is. sym (was_false c.has_name.result h) ∙ c.has_name.ensures es are l is),
      λ all.
          let after = spells-after e rest c.args.bytes.now c.args.count some found.1 all in
          ap not (c.has_name.ensures after.0 after.1 after.2 after.3 ∙ ap is_some after.4),
    )

pub returns-else-are_entries : goal.returns-else-are_entries
returns-else-are_entries t c =
    let e : List ℕ × List ℕ = (c.in-Some.front.name.now, c.in-Some.front.value.now) in
    let rest = c.in-Some.front.rest.now in
    let some : 0 < c.args.count = omega arith in (
      λ h. absurd (no_both c.are_entries.result h c.if-are_entries.false),
      λ all.
          let after = spells-after e rest c.args.bytes.now c.args.count some c.in-Some.ensures.found.1 all in
          c.are_entries.ensures.1 (after.0, after.1, after.2, after.3),
    )

pub returns-in-None : goal.returns-in-None
returns-in-None t c =
    let some : 0 < c.args.count = omega arith in
    (λ h. absurd (no_both false h refl), λ all. absurd (spells-none c.args.bytes.now c.args.count some c.in-None.ensures.none all.0 all.1 all.2 all.3))
