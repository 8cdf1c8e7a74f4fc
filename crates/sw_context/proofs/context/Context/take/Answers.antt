use Rattle.std.proofs.Common.{ap, sym, subst, option_map, ◌∙◌, map}
use Rattle.sw_context.proofs.Entries.{find-seen, seen-remove, seen}
use Rattle.sw_context.proofs.PairLaws.{IsContext-without}
use Rattle.sw_context.specs.Pairs.{Pairs, without, find, IsContext}
use Rattle.sw_context.proofs.context.Context.take.Goals as goal

pub invariant_of-self : goal.invariant_of-self
invariant_of-self c =
    subst (λ (es : Pairs). IsContext es)
    (sym (ap (map seen) c.shift_remove.ensures.entries ∙ seen-remove c.args.name.now c.self.inside.entries.entries))
    (IsContext-without c.args.name.now (map seen c.self.inside.entries.entries) c.self.invariant)

pub returns-clause-taken : goal.returns-clause-taken
returns-clause-taken c =
    ap (option_map (λ v. v.items)) c.shift_remove.ensures.value
    ∙ sym (find-seen c.args.name.now c.self.inside.entries.entries)
    ∙ ap (find c.args.name.now) c.self.view_is

pub returns-clause-left : goal.returns-clause-left
returns-clause-left c =
    ap (map seen) c.shift_remove.ensures.entries
    ∙ seen-remove c.args.name.now c.self.inside.entries.entries
    ∙ ap (without c.args.name.now) c.self.view_is
