use Rattle.std.proofs.Common.{List, map, length, ap, subst, arith}
use Rattle.sw_context.specs.Pairs.{AreEntries}
use Rattle.sw_context.proofs.Entries.{Entry, seen}
use Rattle.sw_context.proofs.SpellingLaws.{short-name}
use Rattle.sw_context.proofs.context.Context.to_bytes.Goals as goal

pub push_entry-requires-clause-name : goal.push_entry-requires-clause-name
push_entry-requires-clause-name c =
    let are = subst (λ (es : List Entry). AreEntries (map seen es)) c.in-Some.ensures.steps c.loop-name.invariant.left in
    omega (arith, short-name (seen (c.in-Some.name.now, c.in-Some.value.now)) are.0, ap length c.as_str.ensures.value)
