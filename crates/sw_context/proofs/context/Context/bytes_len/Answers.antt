use Rattle.std.proofs.Common.{List, ℕ, map, length, ap, subst, ◌∙◌, arith}
use Rattle.std.specs.List.{flat_map}
use Rattle.sw_context.specs.Pairs.{Pairs, IsContext}
use Rattle.sw_context.specs.Spelling.{entry_bytes}
use Rattle.sw_context.proofs.Entries.{Entry, seen}
use Rattle.sw_context.proofs.SpellingLaws.{length-context, length-first}
use Rattle.sw_context.proofs.context.Context.bytes_len.Goals as goal

-- how many bytes the entries have that a loop has yet to count
abbrev left : List Entry → ℕ
left es = length (flat_map entry_bytes (map seen es))

pub loop-name-init : goal.loop-name-init
loop-name-init c =
    let all = ap left c.into_iter-name-iterator.ensures.into_iter_gives.0 ∙ ap (λ (es : Pairs). length (flat_map entry_bytes es)) c.self.view_is in
    record {
      small = length-context c.args.self.now (subst (λ (es : Pairs). IsContext es) c.self.view_is c.self.invariant);
      counted = omega (arith, all);
    }

pub overflow_add-total-in-loop-name : goal.overflow_add-total-in-loop-name
overflow_add-total-in-loop-name c =
    let first = ap left c.in-Some.ensures.steps ∙ length-first (seen (c.in-Some.name.now, c.in-Some.value.now)) (map seen c.next.new.self) in
    omega (arith, first)

pub overflow_add-total-in-loop-name-2 : goal.overflow_add-total-in-loop-name-2
overflow_add-total-in-loop-name-2 c =
    let first = ap left c.in-Some.ensures.steps ∙ length-first (seen (c.in-Some.name.now, c.in-Some.value.now)) (map seen c.next.new.self) in
    omega (arith, first)

pub returns-clause-bound : goal.returns-clause-bound
returns-clause-bound c = omega arith
